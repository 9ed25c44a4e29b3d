pub mod SmallCode
pub mod StatementViews
