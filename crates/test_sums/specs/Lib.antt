pub mod SumsExtra
