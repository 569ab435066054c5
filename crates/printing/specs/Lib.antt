pub mod Decimal
pub mod Lines
pub mod Parts
pub mod Runs
pub mod Shown
