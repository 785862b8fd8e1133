pub mod Settings
pub mod Lines
