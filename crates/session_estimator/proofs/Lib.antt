pub mod Follows
pub mod Asking
