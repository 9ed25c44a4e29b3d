pub mod CodeLaws
pub mod JumpLaws
pub mod StatementsInRow
pub mod OpenedKinds
pub mod StatementSizes
pub mod MethodLaws
pub mod StatementKinds
