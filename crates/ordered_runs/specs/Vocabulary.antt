-- The definitions of lower crates that the crates above this one name from here.
pub use Rattle.aria_batch.specs.BatchRun.{Batch, IsToldAlong, batch_of, own_outcomes}
pub use Rattle.aria_batch.specs.Vocabulary.{IsParts, Outside, acts_of}
pub use Rattle.aria_batch.specs.declared.batch.BatchResult.{BatchResult}
