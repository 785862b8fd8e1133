pub mod Answers
pub mod LineWidth
pub mod LineCount
