pub mod Queues
pub mod Turns
pub mod Reading
pub mod Sides
