pub mod RowExtra
