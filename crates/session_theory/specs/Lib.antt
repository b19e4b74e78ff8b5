pub mod Kept
pub mod Readers
