pub mod Tables
pub mod Scans
pub mod Drains
