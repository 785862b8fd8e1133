pub mod RenderLine
