pub mod CheckpointSteps
pub mod Epochs
pub mod Fillings
pub mod Gates
pub mod Histories
pub mod OneNewest
pub mod PagedWrites
pub mod Slots
