pub mod Claims
pub mod Laws
