-- How a run in batches ends, by its result.
use Rattle.std.proofs.Common.{◌≡◌, ℕ, ◌+◌, ◌⊎◌, inl, inr, List, Ok, Err, refl, sym, subst, arith}
use Rattle.std.specs.declared.option.Option.{Option}
use Rattle.std.specs.declared.result.Result.{Result}
use Rattle.std.specs.Io.KnownBytes.{Appends}
use Rattle.sf_outside.specs.Bytes.{AppendsPrefix}
use Rattle.sf_outside.specs.DiskModel.{DiskFacts}
use Rattle.block_step.specs.declared.compiled.Compiled.{Compiled}
use Rattle.operator_graph.specs.Turns.{Outside}
use Rattle.engine.specs.Cores.{Core}
use Rattle.batch_run.specs.Vocabulary.{Tally, no_batch, trace_text, RunBatches, BeginBatches, SessionFault, BatchCounts}
use Rattle.batch_run.proofs.Vocabulary.{prefix_whole}
use Rattle.batch_run.specs.SessionFaultVariants as stop
use Rattle.batch_run.specs.declared.running.RunSettings.{RunSettings}
use Rattle.batch_run.specs.RunViews.{run_service, CanServe}
use Rattle.batch_run.specs.RunEvents.{AreTold, TellsBatches, TracesBatches}
use Rattle.batch_run.proofs.EventLaws.{run_have_begun}
use Rattle.command_words.specs.Commands as words
use Rattle.stateflow_cli.specs.Words.{AreInRange}
use Rattle.stateflow_cli.specs.Devices.{Devices}
use Rattle.stateflow_cli.specs.Endings.{RunEnds, RunsFile, longest_input, settings_for, run_ending}
use Rattle.stateflow_cli.specs.StatusLines.{status_of}
use Rattle.stateflow_cli.specs.declared.ending.Ending.{Ending}

-- a run's result is how it ends
module _ (limit : ℕ) (file : List ℕ) (w : words.RunSettings) (before after : Devices) (was now : DiskFacts) where
  came_to : (result : Result Tally SessionFault) → RunsFile limit file w before after now result → RunEnds limit file w before after was now (run_ending result)
  came_to (Ok tally) r = (tally, r)
  came_to (Err stopped) r = inr r

  pub run_ends : (result : Result Tally SessionFault) (e : Ending) → e ≡ run_ending result → RunsFile limit file w before after now result
      → RunEnds limit file w before after was now e
  run_ends result e is r = subst (RunEnds limit file w before after was now) (sym is) (came_to result r)

-- settings in range can be served
pub can_serve : (w : words.RunSettings) (s : RunSettings) → s ≡ settings_for longest_input w → AreInRange w → CanServe s
can_serve w s is r = subst CanServe (sym is) (record { some = r.some; few = r.few; partitions = r.partitions; limit = omega arith })

-- How many batches were told, by the result

pub all_told : (result : Result Tally SessionFault) (told ran : ℕ) → (status_of (run_ending result) ≡ 4 → ⊥) → AreTold result told ran → told ≡ ran
all_told (Ok tally) told ran p h = h
all_told (Err stop.ReadFault) told ran p h = h
all_told (Err stop.InputTooLong) told ran p h = h
all_told (Err stop.HistoryFull) told ran p h = h
all_told (Err stop.NoMemory) told ran p h = h
all_told (Err stop.DiskFault) told ran p h = h
all_told (Err stop.WriteFault) told ran p h = absurd (p refl)

pub most_told : (result : Result Tally SessionFault) (told ran : ℕ) → AreTold result told ran → (told ≡ ran) ⊎ (told + 1 ≡ ran)
most_told (Ok tally) told ran h = inl h
most_told (Err stop.ReadFault) told ran h = inl h
most_told (Err stop.InputTooLong) told ran h = inl h
most_told (Err stop.HistoryFull) told ran h = inl h
most_told (Err stop.NoMemory) told ran h = inl h
most_told (Err stop.DiskFault) told ran h = inl h
most_told (Err stop.WriteFault) told ran h = h

-- Batches that were told and traced, by the result

module _ (compiled : Compiled) (s : RunSettings) (cores : List Core) (counts : List BatchCounts) (a b : Outside) where
  pub begun_of : (result : Result Tally SessionFault) → TellsBatches compiled s result cores counts a b → BeginBatches (run_service compiled s) cores counts a b
  begun_of (Ok tally) h = run_have_begun (run_service compiled s) cores counts a b h
  begun_of (Err stop.ReadFault) h = run_have_begun (run_service compiled s) cores counts a b h
  begun_of (Err stop.InputTooLong) h = run_have_begun (run_service compiled s) cores counts a b h
  begun_of (Err stop.HistoryFull) h = run_have_begun (run_service compiled s) cores counts a b h
  begun_of (Err stop.NoMemory) h = h
  begun_of (Err stop.DiskFault) h = h
  begun_of (Err stop.WriteFault) h = h

  pub whole_of : (result : Result Tally SessionFault) → (status_of (run_ending result) ≡ 4 → ⊥) → (status_of (run_ending result) ≡ 5 → ⊥)
      → (status_of (run_ending result) ≡ 8 → ⊥) → TellsBatches compiled s result cores counts a b → RunBatches (run_service compiled s) cores counts a b
  whole_of (Ok tally) p q r h = h
  whole_of (Err stop.ReadFault) p q r h = h
  whole_of (Err stop.InputTooLong) p q r h = h
  whole_of (Err stop.HistoryFull) p q r h = h
  whole_of (Err stop.NoMemory) p q r h = absurd (r refl)
  whole_of (Err stop.DiskFault) p q r h = absurd (q refl)
  whole_of (Err stop.WriteFault) p q r h = absurd (p refl)

module _ (compiled : Compiled) (s : RunSettings) (counts : List BatchCounts) (a b : Option (List ℕ)) where
  pub part_traced : (result : Result Tally SessionFault) → TracesBatches compiled s result counts a b → AppendsPrefix a b (trace_text s.trace no_batch counts)
  part_traced (Ok tally) h = prefix_whole a b (trace_text s.trace no_batch counts) h
  part_traced (Err stop.ReadFault) h = prefix_whole a b (trace_text s.trace no_batch counts) h
  part_traced (Err stop.InputTooLong) h = prefix_whole a b (trace_text s.trace no_batch counts) h
  part_traced (Err stop.HistoryFull) h = prefix_whole a b (trace_text s.trace no_batch counts) h
  part_traced (Err stop.NoMemory) h = prefix_whole a b (trace_text s.trace no_batch counts) h
  part_traced (Err stop.DiskFault) h = prefix_whole a b (trace_text s.trace no_batch counts) h
  part_traced (Err stop.WriteFault) h = h

  pub whole_traced : (result : Result Tally SessionFault) → (status_of (run_ending result) ≡ 4 → ⊥) → TracesBatches compiled s result counts a b → Appends a b (trace_text s.trace no_batch counts)
  whole_traced (Ok tally) p h = h
  whole_traced (Err stop.ReadFault) p h = h
  whole_traced (Err stop.InputTooLong) p h = h
  whole_traced (Err stop.HistoryFull) p h = h
  whole_traced (Err stop.NoMemory) p h = h
  whole_traced (Err stop.DiskFault) p h = h
  whole_traced (Err stop.WriteFault) p h = absurd (p refl)

-- Which result has a status

pub served_is : (result : Result Tally SessionFault) → status_of (run_ending result) ≡ 0 → (tally : Tally) × (result ≡ Ok tally)
served_is (Ok tally) n = (tally, refl)
served_is (Err stop.ReadFault) n = absurd (omega (arith, n))
served_is (Err stop.WriteFault) n = absurd (omega (arith, n))
served_is (Err stop.DiskFault) n = absurd (omega (arith, n))
served_is (Err stop.InputTooLong) n = absurd (omega (arith, n))
served_is (Err stop.HistoryFull) n = absurd (omega (arith, n))
served_is (Err stop.NoMemory) n = absurd (omega (arith, n))

pub unread_is : (result : Result Tally SessionFault) → status_of (run_ending result) ≡ 3 → result ≡ Err stop.ReadFault
unread_is (Ok tally) n = absurd (omega (arith, n))
unread_is (Err stop.ReadFault) n = refl
unread_is (Err stop.WriteFault) n = absurd (omega (arith, n))
unread_is (Err stop.DiskFault) n = absurd (omega (arith, n))
unread_is (Err stop.InputTooLong) n = absurd (omega (arith, n))
unread_is (Err stop.HistoryFull) n = absurd (omega (arith, n))
unread_is (Err stop.NoMemory) n = absurd (omega (arith, n))

pub unlogged_is : (result : Result Tally SessionFault) → status_of (run_ending result) ≡ 5 → result ≡ Err stop.DiskFault
unlogged_is (Ok tally) n = absurd (omega (arith, n))
unlogged_is (Err stop.ReadFault) n = absurd (omega (arith, n))
unlogged_is (Err stop.WriteFault) n = absurd (omega (arith, n))
unlogged_is (Err stop.DiskFault) n = refl
unlogged_is (Err stop.InputTooLong) n = absurd (omega (arith, n))
unlogged_is (Err stop.HistoryFull) n = absurd (omega (arith, n))
unlogged_is (Err stop.NoMemory) n = absurd (omega (arith, n))

pub wanting_is : (result : Result Tally SessionFault) → status_of (run_ending result) ≡ 8 → result ≡ Err stop.NoMemory
wanting_is (Ok tally) n = absurd (omega (arith, n))
wanting_is (Err stop.ReadFault) n = absurd (omega (arith, n))
wanting_is (Err stop.WriteFault) n = absurd (omega (arith, n))
wanting_is (Err stop.DiskFault) n = absurd (omega (arith, n))
wanting_is (Err stop.InputTooLong) n = absurd (omega (arith, n))
wanting_is (Err stop.HistoryFull) n = absurd (omega (arith, n))
wanting_is (Err stop.NoMemory) n = refl

pub too_long_is : (result : Result Tally SessionFault) → status_of (run_ending result) ≡ 9 → result ≡ Err stop.InputTooLong
too_long_is (Ok tally) n = absurd (omega (arith, n))
too_long_is (Err stop.ReadFault) n = absurd (omega (arith, n))
too_long_is (Err stop.WriteFault) n = absurd (omega (arith, n))
too_long_is (Err stop.DiskFault) n = absurd (omega (arith, n))
too_long_is (Err stop.InputTooLong) n = refl
too_long_is (Err stop.HistoryFull) n = absurd (omega (arith, n))
too_long_is (Err stop.NoMemory) n = absurd (omega (arith, n))

pub full_is : (result : Result Tally SessionFault) → status_of (run_ending result) ≡ 10 → result ≡ Err stop.HistoryFull
full_is (Ok tally) n = absurd (omega (arith, n))
full_is (Err stop.ReadFault) n = absurd (omega (arith, n))
full_is (Err stop.WriteFault) n = absurd (omega (arith, n))
full_is (Err stop.DiskFault) n = absurd (omega (arith, n))
full_is (Err stop.InputTooLong) n = absurd (omega (arith, n))
full_is (Err stop.HistoryFull) n = refl
full_is (Err stop.NoMemory) n = absurd (omega (arith, n))
