-- The lemmas of lower crates that the crates above this one name from here.
pub use Rattle.line_answers.proofs.LineLaws.{line_fits}
pub use Rattle.line_answers.proofs.TakenLaws.{same_service}
pub use Rattle.line_answers.proofs.Vocabulary.{caused, chain, fails_alike, Logs-same, Logs-end, Logs-still, Logs-checkpoint, rose_earlier, stays, stays_none, stays_then, still_ready, then_goes}
