pub mod Computed
pub mod Framings
pub mod Sending
