pub mod Stages
pub mod Meant
pub mod Steps
pub mod Pushes
pub mod Flawless
pub mod Ends
pub mod Frames
