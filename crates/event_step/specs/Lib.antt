pub mod Running
pub mod Values
pub mod ItemEnds
pub mod Turns
pub mod Frames
pub mod Steps
