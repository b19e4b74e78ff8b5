pub mod Hex
pub mod First
pub mod Frames
pub mod Refusals
pub mod Order
pub mod Texts
