pub mod Places
pub mod ByPairs
pub mod Tests
pub mod Growing
pub mod Turns
mod Examples
