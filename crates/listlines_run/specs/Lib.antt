pub mod Program
pub mod Printed
pub mod CutExtra
pub mod SkippedExtra
