pub mod Ids
pub mod Made
