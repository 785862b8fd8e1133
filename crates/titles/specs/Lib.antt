pub mod Titles
pub mod PlacingExtra
