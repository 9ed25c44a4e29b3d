-- The lemmas of lower crates that the crates above this one name from here.
pub use Rattle.batch_replies.proofs.FlushLaws.{stays_none, stays_then}
pub use Rattle.batch_replies.proofs.GoingLaws.{caused, chain, fails_alike, rose_earlier, stays, still_ready, then_goes}
pub use Rattle.batch_replies.proofs.MomentLaws.{Logs-then, Logs-more, Logs-end, Logs-same, Logs-still, Logs-checkpoint}
