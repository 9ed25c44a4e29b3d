pub mod Views
pub mod Answers
pub mod Functions
pub mod Scopes
pub mod Calls
