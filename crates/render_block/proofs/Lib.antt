pub mod Frames
pub mod KeepsSymbols
pub mod Keeps
pub mod Keeping
pub mod KeepsBits
pub mod Elsewhere
