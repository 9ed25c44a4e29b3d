-- What the last flush leaves of what is served, and what is known of a session by what it came to.
use Rattle.std.proofs.Common.{◌≡◌, ◌⊎◌, inl, inr, ℕ, Bool, List, [], Option, Ok, Err, false, refl, sym, ap, ◌∙◌, subst}
use Rattle.std.specs.Prelude.{IfOk}
use Rattle.std.specs.declared.result.Result.{Result}
use Rattle.std.specs.Io.KnownBytes.{Keeps}
use Rattle.sf_outside.specs.DiskModel.{DiskFacts}
use Rattle.engine.specs.Cores.{Core}
use Rattle.session_store.specs.declared.store.Store.{Store}
use Rattle.session_steps.specs.Vocabulary.{Service, StaysHanded, Stop, StoreSettings}
use Rattle.session_steps.specs.StopVariants as stops
use Rattle.session_steps.specs.Steps.{Step}
use Rattle.session_steps.specs.declared.tally.Tally.{Tally}
use Rattle.batch_session.specs.declared.serving.SessionFault.{SessionFault}
use Rattle.batch_session.specs.declared.serving.SessionFault.TheVariants as fault
use Rattle.batch_session.specs.Faults.{IsFlushed, disk_failed}
use Rattle.batch_session.specs.Served.{View, point_at, first_point, AreWhole, AreAll, AreFirst, AreStepsBy, CameTo, EndsWith, Served, ServedInTurn}
use Rattle.batch_session.proofs.FlushLaws.{Comes-flushed}
use Rattle.batch_session.proofs.TurnLaws.{in_turn_unwritten}

module _ (v : Service) (traces : Bool) (settings : Option StoreSettings) (limit : ℕ) where
  abbrev view_with : View → Option (List ℕ) → Option (List ℕ) → View
  view_with view held handed = record { core = view.core; left = view.left; held = held; handed = handed; traced = view.traced; outside = view.outside }

  module _ (old mid : View) (held handed : Option (List ℕ)) (more : StaysHanded mid.handed handed) (first last : Core) (f g : DiskFacts) where
    abbrev Serves : Result Tally SessionFault → View → Type 0
    Serves result new = Served v traces settings limit result old new first last f g

    -- nothing more is written
    abbrev same_flushed : (served : Result Tally SessionFault) → Keeps mid.held held → Serves served mid → Serves served (view_with mid held handed)
    same_flushed served kept s = record {
      taken = s.taken;
      consumed = s.consumed;
      ended = s.ended;
      ends = s.ends;
      steps = s.steps;
      of_taken = s.of_taken;
      stop = s.stop;
      is_stop = s.is_stop;
      lines = s.lines;
      tally = s.tally;
      came = Comes-flushed v traces held handed s.stop s.steps (first_point old) (point_at mid s.lines s.tally) kept more s.came;
      counted = s.counted;
      none_waits = s.none_waits;
      logs = s.logs;
    }

    -- whatever was served before the flush failed
    abbrev served_unflushed : (served : Result Tally SessionFault) (new : View) → Serves served new → Serves (Err fault.WriteFault) new
    served_unflushed served new s = record {
      taken = s.taken;
      consumed = s.consumed;
      ended = s.ended;
      ends = tt;
      steps = s.steps;
      of_taken = s.of_taken;
      stop = s.stop;
      is_stop = s.is_stop;
      lines = s.lines;
      tally = s.tally;
      came = s.came;
      counted = tt;
      none_waits = s.none_waits;
      logs = s.logs;
    }

    module _ (store : Option Store) where
      abbrev InTurn : Result Tally SessionFault → View → Type 0
      InTurn result new = ServedInTurn v traces settings limit result old new first last f g store

      turn_flushed : (served : Result Tally SessionFault) → Keeps mid.held held → InTurn served mid → InTurn served (view_with mid held handed)
      turn_flushed served kept t = record { served = same_flushed served kept t.served; in_turn = t.in_turn }

      turn_unflushed : (served : Result Tally SessionFault) → disk_failed served ≡ false → Keeps mid.held held → InTurn served mid → InTurn (Err fault.WriteFault) (view_with mid held handed)
      turn_unflushed served whole kept t = record { served = served_unflushed served (view_with mid held handed) (same_flushed served kept t.served); in_turn = in_turn_unwritten traces served store t.served.tally.batches whole t.in_turn }

      pub Served-flushed : (served result : Result Tally SessionFault) → IsFlushed served result → disk_failed result ≡ disk_failed served → Keeps mid.held held → InTurn served mid → InTurn result (view_with mid held handed)
      Served-flushed served result (inl is) same kept t = subst (λ x. InTurn x (view_with mid held handed)) (sym is) (turn_flushed served kept t)
      Served-flushed served result (inr is) same kept t = subst (λ x. InTurn x (view_with mid held handed)) (sym is) (turn_unflushed served (sym same ∙ ap disk_failed is) kept t)

  -- what is known of a session by what it came to before the last flush
  module _ (result : Result Tally SessionFault) (old new : View) (first last : Core) (f g : DiskFacts) (s : Served v traces settings limit result old new first last f g) where
    pub record EndedAt (e : Result (Unit {0}) SessionFault) : Type 0 where
      pub of_taken : AreStepsBy v limit e old.core s.taken new.left s.steps
      pub is_stop : CameTo e s.stop
      pub none_waits : IfOk e (λ (value : Unit {0}). new.core.pending ≡ [])

    pub ended_at : (e : Result (Unit {0}) SessionFault) → s.ended ≡ e → EndedAt e
    ended_at e same = subst (λ x. EndedAt x) same (record { of_taken = s.of_taken; is_stop = s.is_stop; none_waits = s.none_waits })

-- whatever it came to, the steps are one of these three
pub some_steps : (v : Service) (limit : ℕ) (ended : Result (Unit {0}) SessionFault) (core : Core) (taken : List ℕ) (left : Option (List ℕ)) (steps : List Step)
    → AreStepsBy v limit ended core taken left steps → AreFirst v limit taken steps ⊎ (AreWhole v limit taken steps ⊎ AreAll v limit core taken left steps)
some_steps v limit (Ok value) core taken left steps all = inr (inr all)
some_steps v limit (Err fault.ReadFault) core taken left steps whole = inr (inl whole)
some_steps v limit (Err fault.InputTooLong) core taken left steps first = inl first
some_steps v limit (Err fault.HistoryFull) core taken left steps either = inr either
some_steps v limit (Err fault.NoMemory) core taken left steps either = inr either
some_steps v limit (Err fault.DiskFault) core taken left steps either = inr either
some_steps v limit (Err fault.WriteFault) core taken left steps either = inr either

-- where it stopped since something couldn't be written the result says so

no_stop : (x : Result (Unit {0}) Stop) → x ≡ Ok (tt {0}) → x ≡ Err stops.WriteFault → ⊥
no_stop x is other = cc

not_full : (x : Result (Unit {0}) Stop) → x ≡ Err stops.HistoryFull → x ≡ Err stops.WriteFault → ⊥
not_full x is other = cc

not_wanting : (x : Result (Unit {0}) Stop) → x ≡ Err stops.NoMemory → x ≡ Err stops.WriteFault → ⊥
not_wanting x is other = cc

not_unlogged : (x : Result (Unit {0}) Stop) → x ≡ Err stops.DiskFault → x ≡ Err stops.WriteFault → ⊥
not_unlogged x is other = cc

pub unwritten_told : (result : Result Tally SessionFault) (ended : Result (Unit {0}) SessionFault) (stop : Result (Unit {0}) Stop) → EndsWith result ended → CameTo ended stop
    → stop ≡ Err stops.WriteFault → result ≡ Err fault.WriteFault
unwritten_told (Ok tally) ended stop e came is = absurd (no_stop stop (subst (λ x. CameTo x stop) e came) is)
unwritten_told (Err fault.ReadFault) ended stop e came is = absurd (no_stop stop (subst (λ x. CameTo x stop) e came) is)
unwritten_told (Err fault.InputTooLong) ended stop e came is = absurd (no_stop stop (subst (λ x. CameTo x stop) e came) is)
unwritten_told (Err fault.HistoryFull) ended stop e came is = absurd (not_full stop (subst (λ x. CameTo x stop) e came) is)
unwritten_told (Err fault.NoMemory) ended stop e came is = absurd (not_wanting stop (subst (λ x. CameTo x stop) e came) is)
unwritten_told (Err fault.DiskFault) ended stop e came is = absurd (not_unlogged stop (subst (λ x. CameTo x stop) e came) is)
unwritten_told (Err fault.WriteFault) ended stop e came is = refl
