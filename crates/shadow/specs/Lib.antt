pub mod Shadow
pub mod FittingExtra
