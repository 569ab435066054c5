pub mod Calls
pub mod Claims
pub mod Entries
pub mod Marks
pub mod Own
pub mod Ways
pub mod Written
