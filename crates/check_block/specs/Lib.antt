pub mod Styles
pub mod Causes
