pub mod Claims
pub mod Laws
pub mod Tests
