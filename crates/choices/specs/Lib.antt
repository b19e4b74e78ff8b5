pub mod Numbers
pub mod Rules
pub mod Finding
pub mod Queries
