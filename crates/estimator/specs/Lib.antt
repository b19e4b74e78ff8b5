pub mod Meanings
pub mod Keeps
