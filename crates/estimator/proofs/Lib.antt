pub mod Fronts
pub mod Asks
