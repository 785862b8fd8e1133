pub mod Record
pub mod Alignment
pub mod Line
pub mod LinesExtra
pub mod Lists
