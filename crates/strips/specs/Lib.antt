pub mod Lists
pub mod Members
pub mod Standing
pub mod Actions
pub mod Fitting
pub mod Tasks
