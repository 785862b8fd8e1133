pub mod Truncation
