-- How one call of a session follows another, by the state that each finds and leaves.
use Rattle.std.proofs.Common.{◌≡◌, ◌≤◌, ◌⊎◌, ℕ, Bool, false, true≢false, List, Ok, Err, inl, inr, refl, sym, ap, ◌∙◌, subst, arith}
use Rattle.std.specs.Prelude.{IfErr}
use Rattle.std.specs.declared.option.Option.{Option}
use Rattle.std.specs.declared.result.Result.{Result}
use Rattle.sf_outside.specs.Causes.{Rose}
use Rattle.sf_outside.specs.DiskModel.{DiskFacts, Mounts}
use Rattle.serial_order.specs.ConflictFree.{Access}
use Rattle.reservations.specs.CommitRules.{Chosen}
use Rattle.batch_output.specs.Vocabulary.{Engine, CoreFits, GrowsSerially, core_of, source_of, tables_of, compiled_of, limit_of, fresh_of, RunsProgram, settled}
use Rattle.batch_output.proofs.Vocabulary.{grows_same, grows_then}
use Rattle.session_store.specs.declared.store.Store.{Store}
use Rattle.session_store.specs.Vocabulary.{logged_of, IsStorable}
use Rattle.session_store.proofs.StoreLaws.{same_source, keeps_same}
use Rattle.batch_replies.specs.declared.stops.Stop.{Stop}
use Rattle.batch_replies.specs.declared.stops.Stop.TheVariants.{WriteFault}
use Rattle.batch_replies.specs.Stops.{is_disk_fault, disk_failed}
use Rattle.batch_replies.specs.GoingOn.{SessionState, state_of, CanGoOn, GoesOn}
use Rattle.batch_replies.proofs.SameProgram.{runs_itself, whole_on, fits_on, fits_back, grows_back, runs_on}

-- ---- counts of faults

pub chain : (x y z : ℕ) → x ≤ y → y ≤ z → x ≤ z
chain x y z p q = omega (arith, p, q)

-- one that rose later has risen from before
pub rose_earlier : (a b c : ℕ) → a ≤ b → Rose b c → Rose a c
rose_earlier a b c later rose = omega (arith, later, rose)

pub caused : {P : Type 0} (a b c : ℕ) → a ≤ b → Rose b c ⊎ P → Rose a c ⊎ P
caused a b c later (inl rose) = inl (rose_earlier a b c later rose)
caused a b c later (inr past) = inr past

-- ---- an engine of which contracts see no change

pub same_storable : (e now : Engine) → core_of now ≡ core_of e → fresh_of now ≡ fresh_of e → IsStorable (core_of e) (fresh_of e) → IsStorable (core_of now) (fresh_of now)
same_storable e now core fresh storable = subst (IsStorable (core_of now)) (sym fresh) (subst (λ c. IsStorable c (fresh_of e)) (sym core) storable)

pub same_logged : (e now : Engine) → core_of now ≡ core_of e → fresh_of now ≡ fresh_of e → logged_of now ≡ logged_of e
same_logged e now core fresh = λ i. settled (core i) (fresh i)

-- ---- a call

module _ (rule : List Access → Chosen) where
  -- nothing was done
  pub stays : (s : SessionState) → CanGoOn s → GoesOn rule false s s
  stays s ready = record {
    runs = runs_itself s.engine;
    fits = ready.fits;
    grows = grows_same (source_of s.engine) (core_of s.engine);
    storable = ready.storable;
    kept = ready.kept;
    settings = refl;
    later = omega arith;
    cause = λ is. absurd (true≢false (sym is));
    mounts = refl;
  }

  -- nothing was done but by the engine, which logged nothing
  pub moved : (e now : Engine) → RunsProgram now (compiled_of e) (limit_of e) → CoreFits (tables_of e) (core_of now)
      → GrowsSerially (source_of e) (core_of e) (core_of now) → IsStorable (core_of now) (fresh_of now) → logged_of now ≡ logged_of e
      → (store : Option Store) (facts : DiskFacts) (faults : ℕ) (mounts : Mounts) → CanGoOn (state_of e store facts faults mounts)
      → GoesOn rule false (state_of e store facts faults mounts) (state_of now store facts faults mounts)
  moved e now runs fits grows storable logged store facts faults mounts ready = record {
    runs = runs;
    fits = fits;
    grows = grows;
    storable = storable;
    kept = keeps_same store (source_of e) (source_of now) (logged_of e) (logged_of now) facts (same_source e now runs) (sym logged) ready.kept;
    settings = refl;
    later = omega arith;
    cause = λ is. absurd (true≢false (sym is));
    mounts = refl;
  }

  -- nor by the engine, as far as contracts see
  pub asked : (e now : Engine) → RunsProgram now (compiled_of e) (limit_of e) → core_of now ≡ core_of e → fresh_of now ≡ fresh_of e
      → (store : Option Store) (facts : DiskFacts) (faults : ℕ) (mounts : Mounts) → CanGoOn (state_of e store facts faults mounts)
      → GoesOn rule false (state_of e store facts faults mounts) (state_of now store facts faults mounts)
  asked e now runs core fresh store facts faults mounts ready =
      moved e now runs (subst (CoreFits (tables_of e)) (sym core) ready.fits) (subst (GrowsSerially (source_of e) (core_of e)) (sym core) (grows_same (source_of e) (core_of e)))
      (same_storable e now core fresh ready.storable) (same_logged e now core fresh) store facts faults mounts ready

  -- ---- and another

  -- behind a call that didn't fail the next one can be made
  pub still_ready : (old new : SessionState) → CanGoOn old → GoesOn rule false old new → CanGoOn new
  still_ready old new ready went = record {
    whole = whole_on old.engine new.engine went.runs ready.whole;
    fits = fits_on old.engine new.engine went.runs (core_of new.engine) went.fits;
    storable = went.storable;
    kept = went.kept;
  }

  pub then_goes : (failed : Bool) (old mid new : SessionState) → GoesOn rule false old mid → GoesOn rule failed mid new → GoesOn rule failed old new
  then_goes failed old mid new first next = record {
    runs = runs_on old.engine mid.engine first.runs new.engine next.runs;
    fits = fits_back old.engine mid.engine first.runs (core_of new.engine) next.fits;
    grows =
        grows_then (source_of old.engine) (core_of old.engine) (core_of mid.engine) (core_of new.engine) first.grows
        (grows_back old.engine mid.engine first.runs (core_of mid.engine) (core_of new.engine) next.grows);
    storable = next.storable;
    kept = next.kept;
    settings = next.settings ∙ first.settings;
    later = chain old.faults mid.faults new.faults first.later next.later;
    cause = λ is. caused old.faults mid.faults new.faults first.later (next.cause is);
    mounts = next.mounts ∙ first.mounts;
  }

  -- ---- whether the disk failed

  pub fails_alike : (failed failed' : Bool) (old new : SessionState) → failed ≡ failed' → GoesOn rule failed old new → GoesOn rule failed' old new
  fails_alike failed failed' old new same went = subst (λ b. GoesOn rule b old new) same went

-- it didn't where something couldn't be written
pub only_written : {T : Type 0} (r : Result T Stop) → IfErr r (λ stop. stop ≡ WriteFault) → disk_failed r ≡ false
only_written (Ok value) is = refl
only_written (Err stop) is = ap is_disk_fault is
