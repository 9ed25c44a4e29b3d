pub mod ListWalks
pub mod CopyLaws
pub mod NameLaws
pub mod ProgramCopies
pub mod Views
pub mod Sizes
pub mod Places
pub mod TypeLaws
pub mod TypeRules
mod StringExamples
pub mod OneOutcome
pub mod OneExpression
pub mod OneType
pub mod OneStatement
pub mod OneProgram
pub mod Taken
pub mod ExpressionBounds
pub mod ExpressionsFit
pub mod TypesFit
pub mod StatementBounds
pub mod StatementsFit
pub mod ProgramsFit
mod ClassRuleExamples
pub mod ReachRules
mod BoundedExamples
pub mod DeclarationLaws
pub mod KeyLaws
pub mod ClassRuleLaws
pub mod CheckedLaws
pub mod IndexLaws
