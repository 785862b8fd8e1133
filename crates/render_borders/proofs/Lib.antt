pub mod Symbols
pub mod Parts
pub mod Borders
