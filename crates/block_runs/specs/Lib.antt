pub mod BlockRuns
pub mod EventStep
pub mod Laws
pub mod StepFits
pub mod StepFalls
