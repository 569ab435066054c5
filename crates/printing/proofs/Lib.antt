pub mod Claims
pub mod Digits
pub mod Puts
pub mod Records
pub mod Runs
pub mod Shows
pub mod Steps
