pub mod BlocksExtra
pub mod NoticesExtra
pub mod TextsExtra
