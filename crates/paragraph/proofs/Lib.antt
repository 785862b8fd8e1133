pub mod Insides
pub mod Frames
pub mod Keeping
pub mod KeepsBits
pub mod Elsewhere
pub mod Apart
