pub mod RunLaws
pub mod ListRuns
pub mod Fitting
pub mod Splits
pub mod Ways
pub mod LastLines
pub mod Renumbering
pub mod Fittings
