pub mod Call
pub mod CallerExtra
