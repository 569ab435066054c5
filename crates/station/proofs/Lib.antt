pub mod Arms
pub mod Counters
pub mod Refusals
pub mod Shown
