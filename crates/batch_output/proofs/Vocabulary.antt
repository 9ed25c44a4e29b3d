-- The lemmas of lower crates that the crates above this one name from here.
pub use Rattle.engine.proofs.CopyLaws.{copied_more, given_more}
pub use Rattle.engine.proofs.GrowthLaws.{grows_same, grows_then}
pub use Rattle.engine.proofs.PlanLaws.{places_count}
