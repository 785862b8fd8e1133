pub mod Moving
pub mod LineDrawn
pub mod RowDrawn
