pub mod Bands
pub mod Given
pub mod Reader
pub mod Records
