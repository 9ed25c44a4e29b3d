-- The lemmas of lower crates that the crates above this one name from here.
pub use Rattle.session_steps.proofs.BeginLaws.{comes_begin}
pub use Rattle.session_steps.proofs.Composing.{counts_of_each}
pub use Rattle.session_steps.proofs.PieceLaws.{prefix_after, prefix_none, prefix_whole}
pub use Rattle.session_steps.proofs.PlainCounts.{batches_plain, events_plain, text_plain}
pub use Rattle.session_steps.proofs.PrintLaws.{steps_print}
pub use Rattle.session_steps.proofs.StepFacts.{all_ran_over, behind_full, behind_placed, printed_placed, ran-append, standing-append, standing-one, standing_over}
pub use Rattle.session_steps.proofs.Vocabulary.{line_fits}
pub use Rattle.session_store.proofs.NoStore.{never_failed}
pub use Rattle.session_store.proofs.Vocabulary.{each_joined, empty_storable}
