pub mod Passed
pub mod Shortness
