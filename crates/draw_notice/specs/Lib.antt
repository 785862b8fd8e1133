pub mod Call
pub mod Pair
