pub mod QuietExpressions
pub mod QuietStatements
pub mod QuietMethods
