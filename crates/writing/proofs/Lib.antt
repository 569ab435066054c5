pub mod GapLaws
pub mod Pieces
pub mod Sizes
pub mod TagLaws
