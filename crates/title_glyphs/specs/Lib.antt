pub mod TitleGlyphs
