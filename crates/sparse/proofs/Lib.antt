pub mod Multiple
pub mod Octets
pub mod Window
pub mod Words
