pub mod Answers
pub mod Accounted
pub mod Glyphs
pub mod EveryGlyph
pub mod Rest
pub mod Unread
