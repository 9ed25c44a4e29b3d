pub mod FlushLaws
pub mod LineLaws
pub mod TakenLaws
pub mod TakingLaws
pub mod Vocabulary
