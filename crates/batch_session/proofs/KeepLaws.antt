-- What follows a batch of which all is logged: a checkpoint was made, or none was due; or one was begun.
use Rattle.std.proofs.Common.{◌≡◌, ◌≤◌, ◌⊎◌, ℕ, Bool, true, false, Option, List, inl, inr, refl, sym, ap, subst}
use Rattle.sf_outside.specs.Causes.{Rose}
use Rattle.sf_outside.specs.DiskModel.{DiskFacts, Mounts}
use Rattle.program_meaning.specs.ClassTables.{Source}
use Rattle.serial_order.specs.ConflictFree.{Access}
use Rattle.reservations.specs.CommitRules.{Chosen}
use Rattle.engine.specs.declared.engine.Engine.{Engine}
use Rattle.engine.specs.Cores.{Core}
use Rattle.engine.specs.EngineViews.{core_of, source_of, fresh_of}
use Rattle.engine.proofs.GrowthLaws.{grows_same}
use Rattle.session_store.specs.Vocabulary.{logged_of}
use Rattle.session_store.specs.declared.store.Store.{Store}
use Rattle.session_store.specs.Cycles.{cycle_of, next_cycle, IsInCycle}
use Rattle.session_store.specs.Stores.{settings_of, Keeps, EndsPast, SnapshotEndsPast}
use Rattle.session_store.specs.Endings.{KeepsWhere, next_core}
use Rattle.session_store.proofs.StoreLaws.{all_logged, leaves_same, leaves_more}
use Rattle.session_store.proofs.CycleLaws.{cycle_goes_on}
use Rattle.session_steps.specs.Vocabulary.{BatchCounts, CanGoOn, GoesOn, state_of}
use Rattle.session_steps.specs.declared.tally.Tally.{Tally}
use Rattle.session_steps.specs.Traces.{with_batch}
use Rattle.batch_session.specs.SessionStates.{IsReady}

-- a batch more was counted, by the store and by the session
pub cycle_counted : (old new : Option Store) (src : Source) (core : Core) (facts : DiskFacts) (tally now : Tally) (counts : BatchCounts) → now ≡ with_batch tally counts
    → Keeps old src core facts → cycle_of new ≡ next_cycle (cycle_of old) → IsInCycle old tally.batches → IsInCycle new now.batches
cycle_counted old new src core facts tally now counts is kept next so_far =
    subst (IsInCycle new) (ap (λ (t : Tally). t.batches) (sym is)) (cycle_goes_on old new src core facts tally.batches kept next so_far)

module _ (e : Engine) (none : fresh_of e ≡ 0) where
  -- the store has what is logged; or where the disk failed each image stands for the core as it is, all of which is logged
  ended_kept : (failed : Bool) (store : Option Store) (facts : DiskFacts) (next : Core) → KeepsWhere failed store (source_of e) (core_of e) (core_of e) facts
      → KeepsWhere failed store (source_of e) (logged_of e) next facts
  ended_kept false store facts next kept = subst (λ core. Keeps store (source_of e) core facts) (sym (all_logged e none)) kept
  ended_kept true store facts next left =
      leaves_same store (source_of e) (source_of e) (core_of e) (logged_of e) next next facts refl (sym (all_logged e none)) refl
      (leaves_more store (source_of e) (core_of e) next facts left)

  module _ (store now : Option Store) (facts facts' : DiskFacts) (faults faults' : ℕ) (mounts mounts' : Mounts) where
    -- a checkpoint would have ended past the last place
    abbrev HasPast : Type 0
    HasPast = SnapshotEndsPast now (core_of e) × Keeps now (source_of e) (core_of e) facts'

    ended_cause : (rule : List Access → Chosen) → Rose faults faults' ⊎ HasPast
        → Rose faults faults' ⊎ EndsPast rule now (source_of e) (core_of e) (fresh_of e) facts'
    ended_cause rule (inl rose) = inl rose
    ended_cause rule (inr past) =
        let logged = sym (all_logged e none) in
        inr (inr (subst (SnapshotEndsPast now) logged past.0), subst (λ core. Keeps now (source_of e) core facts') logged past.1)

    pub ended_goes : (failed : Bool) → CanGoOn (state_of e store facts faults mounts) → KeepsWhere failed now (source_of e) (core_of e) (core_of e) facts'
        → settings_of now ≡ settings_of store → faults ≤ faults' → (failed ≡ true → Rose faults faults' ⊎ HasPast) → mounts' ≡ mounts
        → (rule : List Access → Chosen) → GoesOn rule failed (state_of e store facts faults mounts) (state_of e now facts' faults' mounts')
    ended_goes failed ready kept settings later cause same rule = record {
      runs = record { compiled_is = refl; limit_is = refl };
      fits = ready.fits;
      grows = grows_same (source_of e) (core_of e);
      storable = ready.storable;
      kept = ended_kept failed now facts' (next_core rule (source_of e) (core_of e)) kept;
      settings = settings;
      later = later;
      cause = λ is. ended_cause rule (cause is);
      mounts = same;
    }

    pub ended_ready : (before batches : ℕ) → IsReady (state_of e store facts faults mounts) before → Keeps now (source_of e) (core_of e) facts' → IsInCycle now batches
        → IsReady (state_of e now facts' faults' mounts') batches
    ended_ready before batches ready kept cycle = record {
      few = ready.few;
      can_go_on = record {
        whole = ready.can_go_on.whole;
        fits = ready.can_go_on.fits;
        storable = ready.can_go_on.storable;
        kept = ended_kept false now facts' (core_of e) kept;
      };
      in_cycle = cycle;
    }
