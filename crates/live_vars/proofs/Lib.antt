pub mod ReadRules
pub mod ItemRules
pub mod TargetRules
pub mod SetRules
pub mod FixedPoint
pub mod ListRules
pub mod TrimRules
pub mod CutSoFar
