pub mod PlainData
pub mod TextLaws
