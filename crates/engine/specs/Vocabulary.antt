-- The definitions of lower crates that the crates above this one name from here.
pub use Rattle.ordered_runs.specs.Vocabulary.{Batch, IsToldAlong, acts_of, batch_of, own_outcomes}
