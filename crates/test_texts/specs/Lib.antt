pub mod NumbersExtra
