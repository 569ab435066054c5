pub mod Front
pub mod Keeps
pub mod Laws
pub mod Opened
