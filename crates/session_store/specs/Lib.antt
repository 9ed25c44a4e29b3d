pub mod Places
pub mod Stores
pub mod Cycles
pub mod Endings
pub mod Checkpoints
pub mod NoDisk
pub mod Vocabulary
