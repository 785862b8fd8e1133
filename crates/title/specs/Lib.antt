pub mod Title
pub mod FittingExtra
