pub mod Calls
pub mod Claims
pub mod Computed
pub mod Entries
pub mod Steps
pub mod Tests
pub mod Way
