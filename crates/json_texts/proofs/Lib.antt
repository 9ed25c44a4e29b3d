pub mod ReadBack
pub mod TextBytes
pub mod TextLengths
