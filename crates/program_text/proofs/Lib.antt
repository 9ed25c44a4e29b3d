pub mod OneReading
pub mod ReadLaws
