pub mod Few
pub mod LineSum
pub mod Pulling
