pub mod Layers
pub mod Small
pub mod Light
mod SizeExamples
mod EraExamples
