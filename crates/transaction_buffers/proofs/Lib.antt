pub mod FoundLaws
pub mod NotedLaws
pub mod HandedOverLaws
