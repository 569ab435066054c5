pub mod Claims
pub mod Counting
