pub mod Sides
pub mod Edges
