pub mod Places
pub mod Tails
pub mod Taking
pub mod Words
pub mod Naming
pub mod Keeping
pub mod Twins
pub mod Firsts
