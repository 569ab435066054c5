pub mod Both
pub mod Computed
pub mod Crc
pub mod Words
