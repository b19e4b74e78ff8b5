pub mod Passing
mod Restanding
mod Rooms
mod Working
