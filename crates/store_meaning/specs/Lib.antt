pub mod StandsFor
pub mod Meanings
pub mod LoggedBatches
pub mod Checkpoints
pub mod Arrivals
pub mod Keeping
pub mod Engines
pub mod Vocabulary
