pub mod Compilation
pub mod CompiledViews
