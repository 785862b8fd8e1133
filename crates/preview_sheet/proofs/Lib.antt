pub mod PageCount
pub mod Changing
pub mod Covered
pub mod DemandThree
pub mod Sheets
pub mod Widening
