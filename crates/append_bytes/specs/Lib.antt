pub mod WrittenExtra
