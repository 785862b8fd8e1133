pub mod Writing
pub mod Answers
pub mod ReadsBack
pub mod Marks
