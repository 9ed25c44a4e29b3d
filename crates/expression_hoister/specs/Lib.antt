pub mod Ways
pub mod ExpressionViews
