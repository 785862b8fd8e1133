pub mod Rule
pub mod Wrapping
pub mod RunsExtra
