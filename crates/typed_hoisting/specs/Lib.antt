pub mod KnownLocals
pub mod TypedHoisting
