pub mod Computed
pub mod Frames
pub mod Gaps
pub mod Pieces
