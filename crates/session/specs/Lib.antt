pub mod Refusals
pub mod Sessions
pub mod Laws
pub mod Openings
pub mod Rooms
pub mod Works
pub mod Texts
