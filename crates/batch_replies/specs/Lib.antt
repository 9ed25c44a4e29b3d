pub mod Stops
pub mod Flushing
pub mod GoingOn
pub mod BatchAnswers
pub mod LinesInOrder
pub mod Vocabulary
pub mod Moments
