pub mod Swaps
pub mod Sifts
pub mod Resets
pub mod Edits
