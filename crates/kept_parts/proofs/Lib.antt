pub mod EachLaws
pub mod IdLaws
pub mod RecordLaws
pub mod ListLaws
pub mod SplitLaws
pub mod StateLaws
