pub mod Lists
pub mod ExprRules
pub mod InitLaws
pub mod BuildLaws
pub mod SmallLaws
pub mod WholeLaws
pub mod TableLaws
pub mod TableCopies
