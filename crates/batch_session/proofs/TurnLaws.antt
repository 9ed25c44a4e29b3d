-- Checkpoints in their turn, from a line to its session; and what is handed on of an output, by how a session ends.
use Rattle.std.proofs.Common.{◌≡◌, ◌≢◌, ◌+◌, inl, inr, Bool, true, false, true≢false, ℕ, List, Option, Ok, Err, refl, sym, subst}
use Rattle.std.specs.Prelude.{OnOk}
use Rattle.std.specs.declared.result.Result.{Result}
use Rattle.sf_outside.specs.Causes.{Rose}
use Rattle.sf_outside.specs.Handing.{IsHandedOn}
use Rattle.session_store.specs.declared.store.Store.{Store}
use Rattle.session_store.specs.Cycles.{IsInCycle, cycle_of}
use Rattle.session_store.proofs.CycleLaws.{cycle_kept}
use Rattle.session_steps.specs.Vocabulary.{SessionState, Stop}
use Rattle.session_steps.specs.StopVariants as stops
use Rattle.session_steps.specs.Traces.{count_to}
use Rattle.session_steps.specs.declared.tally.Tally.{Tally}
use Rattle.batch_session.specs.declared.serving.SessionFault.{SessionFault}
use Rattle.batch_session.specs.declared.serving.SessionFault.TheVariants as fault
use Rattle.batch_session.specs.Faults.{disk_failed, fault_of, finished, unflushed}
use Rattle.batch_session.specs.InTurn.{IsInTurnAt, IsInTurn, IsFlushedBy}
use Rattle.batch_session.specs.SessionStates.{IsReady}

-- ---- checkpoints

module _ (traces : Bool) where
  -- whatever a line comes to, where none is owed
  still_at : {T : Type 0} (r : Result T Stop) (store : Option Store) (batches : ℕ) → IsInCycle store batches → IsInTurnAt traces r store batches
  still_at (Ok value) store batches in_cycle = in_cycle
  still_at (Err stops.HistoryFull) store batches in_cycle = in_cycle
  still_at (Err stops.NoMemory) store batches in_cycle = in_cycle
  still_at (Err stops.DiskFault) store batches in_cycle = tt
  still_at (Err stops.WriteFault) store batches in_cycle = inl in_cycle

  pub in_turn_still : {T : Type 0} (r : Result T Stop) (old new : Option Store) (batches : ℕ) → cycle_of new ≡ cycle_of old → IsInCycle old batches → IsInTurnAt traces r new batches
  in_turn_still r old new batches same in_cycle = still_at r new batches (cycle_kept old new batches same in_cycle)

  -- behind the end of a batch, which has a place and wants no memory; where its line couldn't be traced no checkpoint was made
  pub in_turn_ended : (r : Result (Unit {0}) Stop) (s : SessionState) (old : Option Store) (before batches : ℕ) → OnOk r (IsReady s batches) → r ≢ Err stops.HistoryFull → r ≢ Err stops.NoMemory
      → batches ≡ count_to (before + 1) → IsInCycle old before → (r ≡ Err stops.WriteFault → traces ≡ true) → (r ≡ Err stops.WriteFault → cycle_of s.store ≡ cycle_of old) → IsInTurnAt traces r s.store batches
  in_turn_ended (Ok value) s old before batches ready placed memory one_more in_cycle asked same = ready.in_cycle
  in_turn_ended (Err stops.HistoryFull) s old before batches ready placed memory one_more in_cycle asked same = absurd (placed refl)
  in_turn_ended (Err stops.NoMemory) s old before batches ready placed memory one_more in_cycle asked same = absurd (memory refl)
  in_turn_ended (Err stops.DiskFault) s old before batches ready placed memory one_more in_cycle asked same = tt
  in_turn_ended (Err stops.WriteFault) s old before batches ready placed memory one_more in_cycle asked same =
      inr (record { asked = asked refl; before = before; one_more = one_more; in_cycle = cycle_kept old s.store before (same refl) in_cycle })

  pub in_turn_passed : {T : Type 0} (r : Result T Stop) (stop : Stop) (store : Option Store) (batches : ℕ) → r ≡ Err stop → IsInTurnAt traces {T = T} (Err stop) store batches → IsInTurnAt traces r store batches
  in_turn_passed r stop store batches is turn = subst (λ x. IsInTurnAt traces x store batches) (sym is) turn

  -- what the session comes to
  pub in_turn_stopped : (stop : Stop) (store : Option Store) (batches : ℕ) → IsInTurnAt traces {T = Unit {0}} (Err stop) store batches → IsInTurn traces (Err (fault_of stop)) store batches
  in_turn_stopped stops.HistoryFull store batches turn = turn
  in_turn_stopped stops.NoMemory store batches turn = turn
  in_turn_stopped stops.DiskFault store batches turn = tt
  in_turn_stopped stops.WriteFault store batches turn = turn

  pub in_turn_finished : (r : Result (Unit {0}) Stop) (tally : Tally) (store : Option Store) (batches : ℕ) → IsInTurnAt traces r store batches → IsInTurn traces (finished r tally) store batches
  in_turn_finished (Ok value) tally store batches turn = turn
  in_turn_finished (Err stop) tally store batches turn = in_turn_stopped stop store batches turn

  -- where no disk failed, and the output can't be flushed then
  pub in_turn_unwritten : (r : Result Tally SessionFault) (store : Option Store) (batches : ℕ) → disk_failed r ≡ false → IsInTurn traces r store batches → IsInTurn traces (Err fault.WriteFault) store batches
  in_turn_unwritten (Ok tally) store batches whole turn = inl turn
  in_turn_unwritten (Err fault.ReadFault) store batches whole turn = inl turn
  in_turn_unwritten (Err fault.InputTooLong) store batches whole turn = inl turn
  in_turn_unwritten (Err fault.HistoryFull) store batches whole turn = inl turn
  in_turn_unwritten (Err fault.NoMemory) store batches whole turn = inl turn
  in_turn_unwritten (Err fault.DiskFault) store batches whole turn = absurd (true≢false whole)
  in_turn_unwritten (Err fault.WriteFault) store batches whole turn = turn

-- ---- the last flush

pub all_flushed : (r : Result Tally SessionFault) (handed held : Option (List ℕ)) (before after : ℕ) → IsHandedOn handed held → IsFlushedBy r handed held before after
all_flushed (Ok tally) handed held before after all = all
all_flushed (Err fault.ReadFault) handed held before after all = all
all_flushed (Err fault.InputTooLong) handed held before after all = all
all_flushed (Err fault.HistoryFull) handed held before after all = all
all_flushed (Err fault.NoMemory) handed held before after all = all
all_flushed (Err fault.DiskFault) handed held before after all = inl all
all_flushed (Err fault.WriteFault) handed held before after all = tt

not_flushed : (r : Result Tally SessionFault) (handed held : Option (List ℕ)) (before after : ℕ) → Rose before after → IsFlushedBy (unflushed r) handed held before after
not_flushed (Ok tally) handed held before after rose = tt
not_flushed (Err fault.ReadFault) handed held before after rose = tt
not_flushed (Err fault.InputTooLong) handed held before after rose = tt
not_flushed (Err fault.HistoryFull) handed held before after rose = tt
not_flushed (Err fault.NoMemory) handed held before after rose = tt
not_flushed (Err fault.DiskFault) handed held before after rose = inr rose
not_flushed (Err fault.WriteFault) handed held before after rose = tt

pub not_all_flushed : (result r : Result Tally SessionFault) (handed held : Option (List ℕ)) (before after : ℕ) → result ≡ unflushed r → Rose before after → IsFlushedBy result handed held before after
not_all_flushed result r handed held before after is rose = subst (λ x. IsFlushedBy x handed held before after) (sym is) (not_flushed r handed held before after rose)

-- a count that rose has risen since an earlier one
pub flushed_since : (r : Result Tally SessionFault) (handed held : Option (List ℕ)) (first before after : ℕ) → (Rose before after → Rose first after) → IsFlushedBy r handed held before after
    → IsFlushedBy r handed held first after
flushed_since (Ok tally) handed held first before after since all = all
flushed_since (Err fault.ReadFault) handed held first before after since all = all
flushed_since (Err fault.InputTooLong) handed held first before after since all = all
flushed_since (Err fault.HistoryFull) handed held first before after since all = all
flushed_since (Err fault.NoMemory) handed held first before after since all = all
flushed_since (Err fault.DiskFault) handed held first before after since (inl all) = inl all
flushed_since (Err fault.DiskFault) handed held first before after since (inr rose) = inr (since rose)
flushed_since (Err fault.WriteFault) handed held first before after since all = tt
