pub mod CompiledCode
