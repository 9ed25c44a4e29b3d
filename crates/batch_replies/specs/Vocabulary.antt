-- The definitions of lower crates that the crates above this one name from here.
pub use Rattle.batch_output.specs.BatchOutput.{Limits, Standing, answer, answer_on, batch_lines, fills, is_due, kept_line, taken}
pub use Rattle.batch_output.specs.SerialBatches.{IsLawfulRule}
pub use Rattle.session_store.specs.Cycles.{cycle_of}
pub use Rattle.session_store.specs.Stores.{settings_of}
pub use Rattle.session_store.specs.Vocabulary.{IsStorable, logged_of, most_bytes}
pub use Rattle.session_store.specs.declared.store.StoreSettings.{StoreSettings}
