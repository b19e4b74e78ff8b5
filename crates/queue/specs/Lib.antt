pub mod Keys
pub mod Refusals
pub mod Queues
pub mod Scans
