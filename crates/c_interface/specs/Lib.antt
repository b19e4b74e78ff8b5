pub mod Failures
pub mod Delivering
pub mod Reading
pub mod Working
pub mod Searching
