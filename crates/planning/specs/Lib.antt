pub mod Laws
pub mod Premises
