pub mod Output
pub mod EntriesExtra
