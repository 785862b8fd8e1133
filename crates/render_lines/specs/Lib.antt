pub mod Rows
pub mod DrawingExtra
