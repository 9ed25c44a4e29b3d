pub mod FlowStays
pub mod CodeJoins
pub mod PointLaws
pub mod NoneAlike
pub mod GuardLaws
pub mod RestsFit
pub mod LoopsFit
pub mod BlocksFit
mod Examples
