pub mod TestsExtra
