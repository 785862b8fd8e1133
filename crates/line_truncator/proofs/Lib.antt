pub mod Truncating
pub mod Truncated
