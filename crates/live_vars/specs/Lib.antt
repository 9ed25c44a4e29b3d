pub mod Saved
pub mod Trim
