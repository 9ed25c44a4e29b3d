pub mod Marked
pub mod Compiling
