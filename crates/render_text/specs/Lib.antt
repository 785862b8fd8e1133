pub mod SettingsExtra
