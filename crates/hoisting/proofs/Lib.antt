pub mod Temporaries
pub mod PartsMean
pub mod Expressions
pub mod Loops
pub mod ListLoops
pub mod RangeLoops
pub mod StatementTemporaries
pub mod Statements
pub mod Methods
pub mod Flatness
mod Examples
pub mod MethodStands
pub mod StageLaws
pub mod PartLaws
mod SmallExamples
