pub mod Keeps
pub mod Effects
pub mod Keeping
