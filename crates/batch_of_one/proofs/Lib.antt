pub mod OneRequest
pub mod WrittenLaws
