pub mod Skipping
pub mod Bounds
pub mod TextDrawn
pub mod Keeping
