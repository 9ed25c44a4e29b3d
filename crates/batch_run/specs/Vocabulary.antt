-- The definitions of lower crates that the crates above this one name from here.
pub use Rattle.batch_output.specs.BatchOutput.{begun}
pub use Rattle.batch_session.specs.Faults.{disk_failed}
pub use Rattle.batch_session.specs.InTurn.{IsFlushedBy, IsInTurn, OwesOne}
pub use Rattle.batch_session.specs.Served.{AreAll, AreFirst, AreStepsBy, AreWhole, EndsWith}
pub use Rattle.batch_session.specs.Vocabulary.{BatchCounts, BeginBatches, EndsAmong, FlushesBatches, IsLogged, LacksALine, LogsSteps, RunBatches, Service, StandsLogged, Step, StoreSettings, Tally, no_batch, numbered_text, tally_after, trace_text}
pub use Rattle.batch_session.specs.declared.serving.SessionFault.{SessionFault}
