pub mod OutcomesExtra
