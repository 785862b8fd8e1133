pub mod RenderGlyphs
pub mod WritingExtra
