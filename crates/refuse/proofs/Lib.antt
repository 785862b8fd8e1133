pub mod Checks
pub mod Passes
pub mod TitleScan
pub mod Calls
pub mod Accepted
pub mod Lowest
pub mod Bounds
pub mod Counts
