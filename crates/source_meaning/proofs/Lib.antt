pub mod AgreeLaws
pub mod CloneLaws
pub mod VarLaws
pub mod BindLaws
pub mod OperationLaws
pub mod TransactionLaws
pub mod TrailerViews
pub mod InPlaceLaws
pub mod ClosedSites
pub mod Measures
pub mod RangeLaws
pub mod CommitLaws
pub mod HereAnswers
mod RecordLaws
