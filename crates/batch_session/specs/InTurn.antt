-- By what a session came to: whether checkpoints came in their turn, and what of its output was handed on.
use Rattle.std.specs.Prelude.{◌≡◌, ◌+◌, ◌⊎◌, ℕ, ⊤, Bool, true, List, Ok, Err}
use Rattle.std.specs.declared.option.Option.{Option}
use Rattle.std.specs.declared.result.Result.{Result}
use Rattle.sf_outside.specs.Causes.{Rose}
use Rattle.sf_outside.specs.Handing.{IsHandedOn}
use Rattle.session_store.specs.declared.store.Store.{Store}
use Rattle.session_store.specs.Cycles.{IsInCycle}
use Rattle.session_steps.specs.Vocabulary.{Stop}
use Rattle.session_steps.specs.StopVariants as stops
use Rattle.session_steps.specs.Traces.{count_to}
use Rattle.session_steps.specs.declared.tally.Tally.{Tally}
use Rattle.batch_session.specs.declared.serving.SessionFault.{SessionFault}
use Rattle.batch_session.specs.declared.serving.SessionFault.TheVariants.{ReadFault, WriteFault, DiskFault, InputTooLong, HistoryFull, NoMemory}

-- batches are traced, and checkpoints came in their turn up to the batch before the last one that was counted: one may be owed for it
pub record OwesOne (traces : Bool) (store : Option Store) (batches : ℕ) : Type 0 where
  pub asked : traces ≡ true
  pub before : ℕ
  pub one_more : batches ≡ count_to (before + 1)
  pub in_cycle : IsInCycle store before

module _ (traces : Bool) where
  -- Behind so many batches that were counted a checkpoint came after every so many of them: at a line that was answered, where the history has no place for a
  -- batch, and where memory is wanted; where something couldn't be written perhaps but for the last batch. At a fault of the disk one may be owed.
  abbrev pub IsInTurnAt : {T : Type 0} → Result T Stop → Option Store → ℕ → Type 0
  IsInTurnAt (Ok value) store batches = IsInCycle store batches
  IsInTurnAt (Err stops.HistoryFull) store batches = IsInCycle store batches
  IsInTurnAt (Err stops.NoMemory) store batches = IsInCycle store batches
  IsInTurnAt (Err stops.DiskFault) store batches = ⊤
  IsInTurnAt (Err stops.WriteFault) store batches = IsInCycle store batches ⊎ OwesOne traces store batches

  -- so it is for a session, also where its input couldn't be read, or was too long
  abbrev pub IsInTurn : Result Tally SessionFault → Option Store → ℕ → Type 0
  IsInTurn (Ok tally) store batches = IsInCycle store batches
  IsInTurn (Err ReadFault) store batches = IsInCycle store batches
  IsInTurn (Err InputTooLong) store batches = IsInCycle store batches
  IsInTurn (Err HistoryFull) store batches = IsInCycle store batches
  IsInTurn (Err NoMemory) store batches = IsInCycle store batches
  IsInTurn (Err DiskFault) store batches = ⊤
  IsInTurn (Err WriteFault) store batches = IsInCycle store batches ⊎ OwesOne traces store batches

-- All that the output holds was handed on, as far as that is told, unless something couldn't be written. A fault of the disk stays one where the output can't be
-- flushed then, and the count of the output's faults rose.
abbrev pub IsFlushedBy : Result Tally SessionFault → Option (List ℕ) → Option (List ℕ) → ℕ → ℕ → Type 0
IsFlushedBy (Ok tally) handed held before after = IsHandedOn handed held
IsFlushedBy (Err ReadFault) handed held before after = IsHandedOn handed held
IsFlushedBy (Err InputTooLong) handed held before after = IsHandedOn handed held
IsFlushedBy (Err HistoryFull) handed held before after = IsHandedOn handed held
IsFlushedBy (Err NoMemory) handed held before after = IsHandedOn handed held
IsFlushedBy (Err DiskFault) handed held before after = IsHandedOn handed held ⊎ Rose before after
IsFlushedBy (Err WriteFault) handed held before after = ⊤
