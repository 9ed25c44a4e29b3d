pub mod PlainFlat
pub mod FlatMeaning
pub mod Flatness
