pub mod Computed
pub mod Kept
pub mod Values
