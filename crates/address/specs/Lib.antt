pub mod Address
pub mod Computed
