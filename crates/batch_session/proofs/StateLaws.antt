-- How the parts of a session follow one another, by the state that each leaves.
use Rattle.std.proofs.Common.{◌≡◌, ◌≤◌, ◌<◌, ◌⊎◌, ℕ, Bool, true, false, true≢false, List, length, Ok, Err, inl, inr, refl, sym, ap, subst, arith}
use Rattle.std.specs.Prelude.{OnOk, IfOk}
use Rattle.std.specs.declared.result.Result.{Result}
use Rattle.sf_outside.specs.Causes.{Rose}
use Rattle.serial_order.specs.ConflictFree.{Access}
use Rattle.reservations.specs.CommitRules.{Chosen}
use Rattle.engine.specs.EngineViews.{core_of}
use Rattle.session_store.specs.Cycles.{IsInCycle, cycle_of}
use Rattle.session_store.proofs.CycleLaws.{cycle_kept}
use Rattle.session_steps.specs.Vocabulary.{SessionState, GoesOn, Stop, is_disk_fault, disk_failed}
use Rattle.session_steps.specs.StopVariants as stops
use Rattle.session_steps.specs.declared.tally.Tally.{Tally}
use Rattle.session_steps.proofs.Vocabulary.{chain, rose_earlier, still_ready}
use Rattle.batch_session.specs.declared.serving.SessionFault.{SessionFault}
use Rattle.batch_session.specs.declared.serving.SessionFault.TheVariants.{WriteFault}
use Rattle.batch_session.specs.Faults.{fault_of, finished, line_unwritten, write_failed}
use Rattle.batch_session.specs.Faults as session
use Rattle.batch_session.specs.SessionStates.{IsReady, WritesOn}

-- ---- counts of faults

-- a count that rose has risen later on
pub rose_later : (a b c : ℕ) → Rose a b → b ≤ c → Rose a c
rose_later a b c rose later = chain _ b c rose later

either_rose : (a b c d e f : ℕ) → a ≤ b → d ≤ e → Rose b c ⊎ Rose e f → Rose a c ⊎ Rose d f
either_rose a b c d e f out err (inl rose) = inl (rose_earlier a b c out rose)
either_rose a b c d e f out err (inr rose) = inr (rose_earlier d e f err rose)

-- ---- the state

module _ (rule : List Access → Chosen) where
  -- the exit of a `?` leaves what the stop left
  pub passed_on : {T : Type 0} (r : Result T Stop) (stop : Stop) (old new : SessionState) → r ≡ Err stop → GoesOn rule (is_disk_fault stop) old new → GoesOn rule (disk_failed r) old new
  passed_on r stop old new is went = subst (λ x. GoesOn rule (disk_failed x) old new) (sym is) went

  -- behind a call that made no checkpoint and didn't fail the session is ready, where few wait
  pub ready_behind : (old new : SessionState) (batches : ℕ) → IsReady old batches → GoesOn rule false old new → length (core_of new.engine).pending < 256 → cycle_of new.store ≡ cycle_of old.store → IsReady new batches
  ready_behind old new batches ready went few cycle = record {
    few = few;
    can_go_on = still_ready rule old new ready.can_go_on went;
    in_cycle = cycle_kept old.store new.store batches cycle ready.in_cycle;
  }

-- ---- the faults of what is written

pub unwritten : (out err : ℕ) → WritesOn false out out err err
unwritten out err = record { later = omega arith; later_err = omega arith; cause = λ is. absurd (true≢false (sym is)) }

pub then_writes : (failed : Bool) (a b c d e f : ℕ) → WritesOn false a b d e → WritesOn failed b c e f → WritesOn failed a c d f
then_writes failed a b c d e f first next = record {
  later = chain a b c first.later next.later;
  later_err = chain d e f first.later_err next.later_err;
  cause = λ is. either_rose a b c d e f first.later first.later_err (next.cause is);
}

pub passed_writes : {T : Type 0} (r : Result T Stop) (stop : Stop) (a b c d : ℕ) → r ≡ Err stop → WritesOn (line_unwritten {T = T} (Err stop)) a b c d → WritesOn (line_unwritten r) a b c d
passed_writes r stop a b c d is wrote = subst (λ x. WritesOn (line_unwritten x) a b c d) (sym is) wrote

pub writes_alike : (failed failed' : Bool) (a b c d : ℕ) → failed ≡ failed' → WritesOn failed a b c d → WritesOn failed' a b c d
writes_alike failed failed' a b c d same wrote = subst (λ x. WritesOn x a b c d) same wrote

-- a line stopped at a write fault where it is told so
pub unwritten_is : {T : Type 0} (r : Result T Stop) → line_unwritten r ≡ true → r ≡ Err stops.WriteFault
unwritten_is (Ok value) is = absurd (true≢false (sym is))
unwritten_is (Err stops.HistoryFull) is = absurd (true≢false (sym is))
unwritten_is (Err stops.NoMemory) is = absurd (true≢false (sym is))
unwritten_is (Err stops.DiskFault) is = absurd (true≢false (sym is))
unwritten_is (Err stops.WriteFault) is = refl

pub stop_unwritten : (stop : Stop) → line_unwritten {T = Unit {0}} (Err stop) ≡ true → stop ≡ stops.WriteFault
stop_unwritten stops.HistoryFull is = absurd (true≢false (sym is))
stop_unwritten stops.NoMemory is = absurd (true≢false (sym is))
stop_unwritten stops.DiskFault is = absurd (true≢false (sym is))
stop_unwritten stops.WriteFault is = refl

-- ---- what a session comes to fails as the line did

pub fault_alike : (T U : Type 0) (stop : Stop) → disk_failed {T = T} (Err stop) ≡ session.disk_failed {T = U} (Err (fault_of stop))
fault_alike T U stops.HistoryFull = refl
fault_alike T U stops.NoMemory = refl
fault_alike T U stops.DiskFault = refl
fault_alike T U stops.WriteFault = refl

pub write_alike : (T U : Type 0) (stop : Stop) → line_unwritten {T = T} (Err stop) ≡ write_failed {T = U} (Err (fault_of stop))
write_alike T U stops.HistoryFull = refl
write_alike T U stops.NoMemory = refl
write_alike T U stops.DiskFault = refl
write_alike T U stops.WriteFault = refl

pub end_fails_alike : (ended : Result (Unit {0}) Stop) (tally : Tally) → disk_failed ended ≡ session.disk_failed (finished ended tally)
end_fails_alike (Ok value) tally = refl
end_fails_alike (Err stop) tally = fault_alike (Unit {0}) Tally stop

pub end_writes_alike : (ended : Result (Unit {0}) Stop) (tally : Tally) → line_unwritten ended ≡ write_failed (finished ended tally)
end_writes_alike (Ok value) tally = refl
end_writes_alike (Err stop) tally = write_alike (Unit {0}) Tally stop

pub end_in_cycle : (ended : Result (Unit {0}) Stop) (tally : Tally) (s : SessionState) → OnOk ended (IsReady s tally.batches)
    → IfOk (finished ended tally) (λ (t : Tally). IsInCycle s.store t.batches)
end_in_cycle (Ok value) tally s ready = ready.in_cycle
end_in_cycle (Err stop) tally s ready = tt

-- the output couldn't be written, or couldn't be flushed behind it
pub flushed_cause : (served : Result Tally SessionFault) (a b c d e : ℕ) → WritesOn (write_failed served) a b d e → b ≤ c → (served ≡ Err WriteFault) ⊎ Rose b c → Rose a c ⊎ Rose d e
flushed_cause served a b c d e wrote later (inl is) = rose_so (wrote.cause (ap write_failed is)) where
  rose_so : Rose a b ⊎ Rose d e → Rose a c ⊎ Rose d e
  rose_so (inl rose) = inl (rose_later a b c rose later)
  rose_so (inr rose) = inr rose
flushed_cause served a b c d e wrote later (inr rose) = inl (rose_earlier a b c wrote.later rose)
