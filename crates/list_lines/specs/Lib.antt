pub mod Call
pub mod Marks
