pub mod Claims
pub mod Ended
pub mod Hex
pub mod Whys
