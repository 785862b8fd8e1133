pub mod LosesExtra
