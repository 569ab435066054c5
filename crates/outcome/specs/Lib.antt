pub mod Computed
pub mod Outcomes
pub mod Plain
pub mod Status
pub mod Steps
