pub mod Answering
pub mod Cutting
pub mod Promised
pub mod Printing
pub mod Running
pub mod Skipping
pub mod Example
