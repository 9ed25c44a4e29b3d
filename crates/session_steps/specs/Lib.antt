pub mod Steps
pub mod Traces
pub mod Flushing
pub mod Doings
pub mod StepLaws
pub mod Vocabulary
pub mod StopVariants
