pub mod Followed
pub mod Estimating
pub mod Tabled
