pub mod BatchOfOne
pub mod WrittenAtOnce
pub mod Vocabulary
