pub mod PagingExtra
pub mod SheetExtra
pub mod WidthsExtra
pub mod CoveredExtra
