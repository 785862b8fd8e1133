pub mod Ways
pub mod Sums
pub mod Emitted
pub mod Summing
