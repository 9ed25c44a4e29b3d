pub mod Verdict
pub mod Fronts
pub mod Judging
pub mod Audits
pub mod Standings
