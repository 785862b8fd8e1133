pub mod Inner
pub mod Causes
