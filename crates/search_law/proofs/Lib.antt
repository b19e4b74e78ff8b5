pub mod Keys
pub mod Writes
pub mod Opens
pub mod Successors
pub mod Takes
pub mod Traces
pub mod Endings
pub mod Numbers
