pub mod Flushing
pub mod LineViews
pub mod Services
pub mod Takings
pub mod LineAnswers
pub mod Vocabulary
pub mod StopVariants
