pub mod EraLists
pub mod Sizes
pub mod Spelt
pub mod LightThings
