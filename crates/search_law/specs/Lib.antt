pub mod Views
pub mod Refusals
pub mod Law
pub mod Boards
pub mod Numbered
