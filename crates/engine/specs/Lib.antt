pub mod Halts
pub mod Whole
