pub mod EnvLaws
pub mod ShownLaws
pub mod ScopeLaws
pub mod WalkLaws
