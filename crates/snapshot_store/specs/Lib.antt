pub mod Answers
pub mod FrontLaws
pub mod PageLaws
pub mod PageSteps
pub mod SlotFile
pub mod SlotSteps
