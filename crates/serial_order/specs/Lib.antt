pub mod Framed
pub mod ConflictFree
