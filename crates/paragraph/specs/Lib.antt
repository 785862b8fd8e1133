pub mod Notice
pub mod Apart
