pub mod Records
pub mod Lines
pub mod SettingUnread
pub mod Causes
pub mod AmbiguousResolved
