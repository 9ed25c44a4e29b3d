-- The definitions of lower crates that the crates above this one name from here.
pub use Rattle.batch_events.specs.Vocabulary.{IsParts, Outside, acts_of}
