pub mod Answers
pub mod Pair
