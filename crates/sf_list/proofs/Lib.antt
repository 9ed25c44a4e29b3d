pub mod CopyLaws
pub mod Pieces
