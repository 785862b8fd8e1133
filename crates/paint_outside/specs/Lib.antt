pub mod AroundExtra
