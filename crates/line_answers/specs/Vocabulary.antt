-- The definitions of lower crates that the crates above this one name from here.
pub use Rattle.aria_batch.specs.BatchRun.{Batch, IsToldAlong}
pub use Rattle.batch_replies.specs.BatchAnswers.{Answers, HasPlace, IsFull, TellsBatch, core_behind, failure_count, runs_on}
pub use Rattle.batch_replies.specs.Flushing.{StaysHanded}
pub use Rattle.batch_replies.specs.GoingOn.{CanGoOn, GoesOn, SessionState, state_of}
pub use Rattle.batch_replies.specs.Moments.{IsBehindOne, IsLogged, Logs, StandsLogged}
pub use Rattle.batch_replies.specs.Stops.{disk_failed, is_disk_fault}
pub use Rattle.batch_replies.specs.Vocabulary.{Standing, StoreSettings}
pub use Rattle.batch_replies.specs.declared.counting.BatchCounts.{BatchCounts}
pub use Rattle.batch_replies.specs.declared.stops.Stop.{Stop}
pub use Rattle.engine.specs.Batches.{batch_entries}
pub use Rattle.engine.specs.Cores.{Core}
