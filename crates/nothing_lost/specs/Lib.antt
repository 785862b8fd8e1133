pub mod Glyphs
pub mod Breaks
