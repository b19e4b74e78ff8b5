pub mod Rows
pub mod Lookups
