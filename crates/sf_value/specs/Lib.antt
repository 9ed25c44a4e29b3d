pub mod Arithmetic
pub mod Weight
pub mod Keys
pub mod Sameness
pub mod TextBytes
pub mod Spots
pub mod Heads
