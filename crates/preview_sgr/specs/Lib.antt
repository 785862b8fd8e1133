pub mod SgrExtra
