pub mod SetLaws
pub mod ByPairs
pub mod Lawful
pub mod TableLaws
pub mod ChoiceLaws
mod Examples
