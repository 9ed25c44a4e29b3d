-- The definitions of lower crates that the crates above this one name from here.
pub use Rattle.line_answers.specs.LineAnswers.{AnswersLine, FindsFull, IsCommitted, IsUnanswered, IsUnlogged, IsUnplanned, IsUnreplied, IsUntaken, Moment, Move, batch_on, before, move_at, ran_by, whole_text}
pub use Rattle.line_answers.specs.LineViews.{ActionFits, cut}
pub use Rattle.line_answers.specs.Services.{IsInRange, Service, limits_of, program_of, service_by, service_of}
pub use Rattle.line_answers.specs.Vocabulary.{Answers, BatchCounts, CanGoOn, GoesOn, HasPlace, IsBehindOne, IsLogged, Logs, SessionState, Standing, StandsLogged, StaysHanded, Stop, StoreSettings, TellsBatch, core_behind, disk_failed, failure_count, is_disk_fault, runs_on, state_of}
pub use Rattle.line_answers.specs.declared.settings.Settings.{Settings}
