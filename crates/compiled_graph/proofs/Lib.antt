pub mod NamesAreBelow
pub mod Places
pub mod CompiledMeaning
pub mod QuietBlocks
mod Examples
