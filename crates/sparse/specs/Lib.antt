pub mod Octets
pub mod Words
