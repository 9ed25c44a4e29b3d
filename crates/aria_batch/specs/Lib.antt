pub mod BatchRun
pub mod Counts
pub mod Vocabulary
