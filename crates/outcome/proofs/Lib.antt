pub mod Plain
pub mod Rules
pub mod Words
