pub mod Parts
pub mod ExprRules
pub mod StmtRules
pub mod MethodLaws
pub mod ClosureLaws
pub mod GraphLaws
pub mod Examples
pub mod CodeRules
