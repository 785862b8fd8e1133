pub mod Drawing
pub mod InkExtra
pub mod PartsExtra
pub mod Screen
