pub mod Replaced
pub mod AmbiguousResolved
