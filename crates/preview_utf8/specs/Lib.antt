pub mod Utf8Extra
