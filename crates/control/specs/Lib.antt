pub mod Computed
pub mod Control
