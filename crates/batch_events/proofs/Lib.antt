pub mod OwnRuns
pub mod BatchWorks
pub mod BatchExamples
