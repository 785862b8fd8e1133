pub mod Tally
pub mod Call
pub mod TallyingExtra
