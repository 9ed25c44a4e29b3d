-- What a session in batches has done for the input that it took.
use Rattle.std.specs.Prelude.{◌≡◌, ℕ, ◌+◌, ◌≤◌, ◌⊎◌, ⊤, Bool, List, [], length, take, Ok, Err, IfOk}
use Rattle.std.specs.declared.option.Option.{Option}
use Rattle.std.specs.declared.result.Result.{Result}
use Rattle.std.specs.Io.KnownBytes.{Consumes, IsAtEnd}
use Rattle.sf_outside.specs.Choices.{Choices}
use Rattle.sf_outside.specs.DiskModel.{DiskFacts}
use Rattle.operator_graph.specs.Telling.{Told}
use Rattle.operator_graph.specs.Turns.{Outside}
use Rattle.engine.specs.declared.engine.Engine.{Engine}
use Rattle.engine.specs.Cores.{Core}
use Rattle.engine.specs.EngineViews.{core_of}
use Rattle.session_store.specs.declared.store.Store.{Store}
use Rattle.session_steps.specs.Vocabulary.{Stop, Service, StoreSettings}
use Rattle.session_steps.specs.StopVariants as stops
use Rattle.session_steps.specs.declared.tally.Tally.{Tally}
use Rattle.session_steps.specs.Steps.{Step, whole_steps, all_steps}
use Rattle.session_steps.specs.Traces.{no_batch}
use Rattle.session_steps.specs.Doings.{Point, Comes, LogsSteps}
use Rattle.batch_session.specs.declared.serving.SessionFault.{SessionFault}
use Rattle.batch_session.specs.declared.serving.SessionFault.TheVariants.{ReadFault, WriteFault, DiskFault, InputTooLong, HistoryFull, NoMemory}
use Rattle.batch_session.specs.InTurn.{IsInTurn}

-- a session from outside: its core, what its input has left, what its output holds and has handed on, what its trace holds, and what was chosen and told
pub record View : Type 0 where
  pub core : Core
  pub left : Option (List ℕ)
  pub held : Option (List ℕ)
  pub handed : Option (List ℕ)
  pub traced : Option (List ℕ)
  pub outside : Outside

abbrev pub view_of : Engine → Option (List ℕ) → Option (List ℕ) → Option (List ℕ) → Option (List ℕ) → Option Choices → Option (List Told) → View
view_of engine left held handed traced choices told =
    record { core = core_of engine; left = left; held = held; handed = handed; traced = traced; outside = record { choices = choices; told = told } }

abbrev pub point_at : View → ℕ → Tally → Point
point_at view lines tally =
    record { core = view.core; lines = lines; held = view.held; handed = view.handed; traced = view.traced; outside = view.outside; tally = tally }

-- it began before the first line, and counted no batch yet
abbrev pub first_point : View → Point
first_point view = point_at view 0 no_batch

-- What was taken of an input, and the steps of that

module _ (v : Service) (limit : ℕ) where
  -- no more bytes than the limit were taken: the steps of their whole lines
  abbrev pub AreWhole : List ℕ → List Step → Type 0
  AreWhole taken steps = (length taken ≤ limit) × (steps ≡ whole_steps taken)

  -- and these are all bytes of the input: the steps of all their lines and of the end
  abbrev pub AreAll : Core → List ℕ → Option (List ℕ) → List Step → Type 0
  AreAll core taken left steps = (length taken ≤ limit) × IsAtEnd left × (steps ≡ all_steps v core taken)

  -- exactly one byte more was taken: the steps of the whole lines of those before it
  abbrev pub AreFirst : List ℕ → List Step → Type 0
  AreFirst taken steps = (length taken ≡ limit + 1) × (steps ≡ whole_steps (take limit taken))

  -- by what a session came to, before its output is flushed at the end
  abbrev pub AreStepsBy : Result (Unit {0}) SessionFault → Core → List ℕ → Option (List ℕ) → List Step → Type 0
  AreStepsBy (Ok value) core taken left steps = AreAll core taken left steps
  AreStepsBy (Err ReadFault) core taken left steps = AreWhole taken steps
  AreStepsBy (Err InputTooLong) core taken left steps = AreFirst taken steps
  AreStepsBy (Err HistoryFull) core taken left steps = AreWhole taken steps ⊎ AreAll core taken left steps
  AreStepsBy (Err NoMemory) core taken left steps = AreWhole taken steps ⊎ AreAll core taken left steps
  AreStepsBy (Err DiskFault) core taken left steps = AreWhole taken steps ⊎ AreAll core taken left steps
  AreStepsBy (Err WriteFault) core taken left steps = AreWhole taken steps ⊎ AreAll core taken left steps

-- What those steps came to then. At a read fault, and past the limit, what waits waits on.
abbrev pub CameTo : Result (Unit {0}) SessionFault → Result (Unit {0}) Stop → Type 0
CameTo (Ok value) came = came ≡ Ok (tt {0})
CameTo (Err ReadFault) came = came ≡ Ok (tt {0})
CameTo (Err InputTooLong) came = came ≡ Ok (tt {0})
CameTo (Err HistoryFull) came = came ≡ Err stops.HistoryFull
CameTo (Err NoMemory) came = came ≡ Err stops.NoMemory
CameTo (Err DiskFault) came = came ≡ Err stops.DiskFault
CameTo (Err WriteFault) came = came ≡ Err stops.WriteFault

-- The result is the same, with the tally where all was served. An output that fails has failed within the session, or as it was flushed.
abbrev pub EndsWith : Result Tally SessionFault → Result (Unit {0}) SessionFault → Type 0
EndsWith (Ok tally) ended = ended ≡ Ok (tt {0})
EndsWith (Err ReadFault) ended = ended ≡ Err ReadFault
EndsWith (Err InputTooLong) ended = ended ≡ Err InputTooLong
EndsWith (Err HistoryFull) ended = ended ≡ Err HistoryFull
EndsWith (Err NoMemory) ended = ended ≡ Err NoMemory
EndsWith (Err DiskFault) ended = ended ≡ Err DiskFault
EndsWith (Err WriteFault) ended = ⊤

-- These bytes were taken, and these are their steps, which were done, or as far as it went; where all is served nothing waits any more, and the tally counts the
-- batches; and so much is logged behind them, and may be left in the store by each moment since.
pub record Served (v : Service) (traces : Bool) (settings : Option StoreSettings) (limit : ℕ) (result : Result Tally SessionFault) (old new : View)
    (first last : Core) (facts facts' : DiskFacts) : Type 0 where
  pub taken : List ℕ
  pub consumed : Consumes old.left new.left taken
  pub ended : Result (Unit {0}) SessionFault
  pub ends : EndsWith result ended
  pub steps : List Step
  pub of_taken : AreStepsBy v limit ended old.core taken new.left steps
  pub stop : Result (Unit {0}) Stop
  pub is_stop : CameTo ended stop
  pub lines : ℕ
  pub tally : Tally
  pub came : Comes v traces stop steps (first_point old) (point_at new lines tally)
  pub counted : IfOk result (λ count. tally ≡ count)
  pub none_waits : IfOk ended (λ value. new.core.pending ≡ [])
  pub logs : LogsSteps v settings old.core 0 steps first last facts facts'

-- and behind the batches that it counted the store is where checkpoints in their turn leave it
pub record ServedInTurn (v : Service) (traces : Bool) (settings : Option StoreSettings) (limit : ℕ) (result : Result Tally SessionFault) (old new : View)
    (first last : Core) (facts facts' : DiskFacts) (store : Option Store) : Type 0 where
  pub served : Served v traces settings limit result old new first last facts facts'
  pub in_turn : IsInTurn traces result store served.tally.batches
