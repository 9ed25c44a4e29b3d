pub mod Answers
pub mod OneStore
pub mod StoreImage
pub mod StoreSteps
