pub mod Flaw
pub mod Input
