-- The lemmas of lower crates that the crates above this one name from here.
pub use Rattle.batch_output.proofs.LawfulBatches.{fewer_wait}
pub use Rattle.session_store.proofs.StoreLaws.{same_source}
pub use Rattle.session_store.proofs.Vocabulary.{arrival_storable, engine_accepted, line_is_short}
