pub mod Framing
pub mod Stage
pub mod Loads
pub mod Reading
