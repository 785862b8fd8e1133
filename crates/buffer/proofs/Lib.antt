pub mod Within
pub mod Changed
pub mod Drawn
pub mod Rows
pub mod Over
pub mod OnScreen
pub mod Order
pub mod Keeping
