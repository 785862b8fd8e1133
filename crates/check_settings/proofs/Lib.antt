pub mod Cells
pub mod Left
