pub mod Borders
pub mod BordersExtra
