pub mod TableLaws
pub mod RecordLaws
pub mod PlaceLaws
pub mod WrittenLaws
mod Examples
