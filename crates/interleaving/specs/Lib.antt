pub mod Turns
pub mod AsAlone
