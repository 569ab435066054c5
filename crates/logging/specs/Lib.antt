pub mod Claims
pub mod Records
pub mod Steps
pub mod Walks
