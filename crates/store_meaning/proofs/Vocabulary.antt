-- The lemmas of lower crates that the crates above this one name from here.
pub use Rattle.engine.proofs.PlanReplays.{plans_replay}
pub use Rattle.recovery.proofs.NamedEntries.{entries_size}
