pub mod Widening
pub mod Lines
