pub mod Numbered
pub mod OneGlyph
pub mod Writing
