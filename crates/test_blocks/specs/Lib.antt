pub mod ScreensExtra
