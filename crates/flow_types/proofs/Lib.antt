pub mod StandingLaws
pub mod HeadLaws
pub mod LocalLaws
pub mod FlowLaws
pub mod MethodLaws
