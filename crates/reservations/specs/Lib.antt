pub mod Accesses
pub mod CommitRules
pub mod BatchRule
pub mod Reservations
pub mod BatchRuleLaws
