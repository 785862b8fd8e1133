pub mod OneGlyph
pub mod Writing
