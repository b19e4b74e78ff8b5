pub mod Estimates
pub mod Rows
pub mod Frontiers
pub mod Turns
pub mod Measure
