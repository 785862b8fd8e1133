pub mod TallyingExtra
