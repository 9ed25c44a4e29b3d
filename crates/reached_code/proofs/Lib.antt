mod LeadingCode
mod LeadingExpressions
pub mod LeadingStatements
