pub mod Computed
pub mod Fields
pub mod Places
pub mod Tags
