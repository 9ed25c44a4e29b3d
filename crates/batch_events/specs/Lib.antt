pub mod BatchRuns
pub mod BatchWorks
pub mod Vocabulary
