pub mod ItemLaws
pub mod ValueLaws
pub mod TurnLaws
pub mod LowerRanks
pub mod BlockLaws
pub mod FrameLaws
pub mod StepLaws
pub mod HandleLaws
