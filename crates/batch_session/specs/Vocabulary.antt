-- The definitions of lower crates that the crates above this one name from here.
pub use Rattle.session_steps.specs.Doings.{BeginBatches, Comes, Does, LogsSteps, Point, RunBatches, StopsAt, StopsBetween, StopsWithin, going, moment}
pub use Rattle.session_steps.specs.Flushing.{FlushesBatches, IsFlushedBehind}
pub use Rattle.session_steps.specs.StepLaws.{AreCounted, ComesBegin, EndsAmong, HasBegun, IsAtNext, LacksALine, StepsPrint, ToldAs, TracedAs, WroteAs}
pub use Rattle.session_steps.specs.Steps.{Answer, RunWaiting, Step, all_steps, answers, behind, endings, move_of, printed_at, ran_at, whole_steps}
unfoldable pub use Rattle.session_steps.specs.Steps.{printed, ran_on, standing_after}
pub use Rattle.session_steps.specs.Traces.{no_batch, numbered_text, tally_after, trace_text}
unfoldable pub use Rattle.session_steps.specs.Traces.{events_in}
pub use Rattle.session_steps.specs.Vocabulary.{ActionFits, BatchCounts, HasPlace, IsBehindOne, IsLogged, IsUnanswered, IsUnplanned, IsUnreplied, IsUntaken, Move, Service, Settings, StandsLogged, Stop, StoreSettings, core_behind, failure_count, limits_of, program_of, service_of, whole_text}
pub use Rattle.session_steps.specs.declared.tally.Tally.{Tally}
pub use Rattle.session_store.specs.Cycles.{IsInCycle}
pub use Rattle.session_store.specs.Endings.{KeepsWhere, next_core}
pub use Rattle.session_store.specs.Stores.{EndsPast, Keeps, settings_of}
pub use Rattle.session_store.specs.Vocabulary.{IsStorable, logged_of}
pub use Rattle.session_store.specs.declared.store.Store.{Store}
