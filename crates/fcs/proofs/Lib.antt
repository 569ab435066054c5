mod Vectors
pub mod Laws
pub mod Lent
