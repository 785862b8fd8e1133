pub mod Lines
pub mod Marks
pub mod Wrap
pub mod Places
pub mod ComposersExtra
pub mod ComposingExtra
