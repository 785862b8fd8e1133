pub mod NumbersExtra
pub mod FileExtra
