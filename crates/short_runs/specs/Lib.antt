pub mod ShortRuns
pub mod RealRuns
