pub mod FlatTypes
pub mod DeadCode
pub mod SplitFits
