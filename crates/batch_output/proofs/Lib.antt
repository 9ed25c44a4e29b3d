pub mod LawfulBatches
pub mod ReportLaws
pub mod SessionLaws
pub mod KeptLaws
pub mod OutputExamples
pub mod Vocabulary
