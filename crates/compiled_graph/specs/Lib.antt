pub mod CompiledGraph
pub mod CodeKeepsRules
pub mod CompiledMeaning
