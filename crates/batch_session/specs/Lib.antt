pub mod Points
pub mod SessionStates
pub mod Answering
pub mod Faults
pub mod InTurn
pub mod Served
pub mod Vocabulary
pub mod StopVariants
