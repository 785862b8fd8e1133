pub mod Widths
pub mod Moving
pub mod TitleLine
pub mod Cells
