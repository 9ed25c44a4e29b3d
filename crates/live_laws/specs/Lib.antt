pub mod Reads
pub mod Live
pub mod Cut
