pub mod Totals
pub mod Summaries
pub mod Generated
