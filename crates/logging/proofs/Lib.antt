pub mod Added
pub mod Claims
pub mod Full
pub mod Loops
pub mod Readings
pub mod Refusals
pub mod Refused
pub mod Turns
