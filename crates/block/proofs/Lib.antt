pub mod Titles
pub mod Within
pub mod Examples
