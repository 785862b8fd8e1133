pub mod Lists
pub mod Steps
pub mod AnyBreaks
pub mod Solid
pub mod Accounted
pub mod Once
pub mod Bounds
pub mod Few
