pub mod InOrder
pub mod Vocabulary
