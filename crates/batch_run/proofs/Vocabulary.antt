-- The lemmas of lower crates that the crates above this one name from here.
pub use Rattle.batch_session.proofs.Vocabulary.{batches_plain, prefix_whole, text_plain}
pub use Rattle.batch_session.proofs.ServeLaws.{some_steps}
