-- Requests that fit, on a state that can be written, come to what can be written, by themselves and one after another.
use Rattle.std.proofs.Common.{◌≡◌, List, [], ◌∷◌, map as over, refl, ap, subst}
use Rattle.std.specs.List.{AllByRecursion}
use Rattle.py_tree.specs.ClassRules.{PlainTable, tables_of}
use Rattle.sf_value.specs.declared.Act.{Act}
use Rattle.sf_value.specs.declared.Request.{Request}
use Rattle.byte_sizes.specs.Spelt.{IsSpeltEntry, IsSpeltRequest}
use Rattle.program_meaning.specs.ClassTables.{Source}
use Rattle.program_meaning.specs.World.{State}
use Rattle.program_meaning.specs.RequestRun.{run}
use Rattle.program_meaning.specs.Serial.{acts_of, serial_state}
use Rattle.program_meaning.specs.Fits.{ActFits, StateFits}
use Rattle.program_meaning.specs.NothingGoesWrong.{IsKnownAccepted}
use Rattle.program_meaning.proofs.Soundness.{runs_fit}
use Rattle.request_history.specs.SoundHistory.{RequestFits}
use Rattle.short_runs.specs.ShortRuns.{StateIsShort}
use Rattle.short_runs.proofs.RunsShort.{runs_are_short}
use Rattle.engine.specs.Batches.{entry_on}
use Rattle.engine.specs.Replays.{serial_entries}
use Rattle.storable_cores.specs.Storable.{StateIsSpelt}
use Rattle.storable_cores.proofs.FittingThings.{state_spelt, outcome_spelt}

asked_fit : (tables : List PlainTable) (rs : List Request) → AllByRecursion (RequestFits tables) rs
    → AllByRecursion (ActFits tables) (over (λ (r : Request). r.act) rs)
asked_fit tables [] all = tt
asked_fit tables (r ∷ rs) all = (all.0.act, asked_fit tables rs all.1)

pub acts_on : (src : Source) (s : State) (rs : List Request) → over (λ (r : Request). r.act) rs ≡ acts_of (over (entry_on src s) rs)
acts_on src s [] = refl
acts_on src s (r ∷ rs) = ap (λ acts. r.act ∷ acts) (acts_on src s rs)

module _ (src : Source) (accepted : IsKnownAccepted src.names src.program) where
  abbrev tables : List PlainTable
  tables = tables_of src.names src.program

  -- a state that fits and is short
  pub record IsKept (s : State) : Type 0 where
    pub fits : StateFits tables s
    pub short : StateIsShort s

  one_kept : (s : State) (asked : Act) → IsKept s → ActFits tables asked → IsKept (run src s asked).state
  one_kept s asked kept fits = record {
    fits = (runs_fit src.names src.program accepted s asked kept.fits fits).0;
    short = (runs_are_short src s asked kept.short).1;
  }

  all_kept : (acts : List Act) (s : State) → IsKept s → AllByRecursion (ActFits tables) acts → IsKept (serial_state src s acts)
  unfolding serial_state
  all_kept [] s kept all = kept
  all_kept (asked ∷ acts) s kept all = all_kept acts (run src s asked).state (one_kept s asked kept all.0) all.1

  entry_spelt : (s : State) (r : Request) → IsKept s → RequestFits tables r → IsSpeltRequest r → IsSpeltEntry (entry_on src s r)
  entry_spelt s r kept fits spelt =
      let came = (runs_fit src.names src.program accepted s r.act kept.fits fits.act).1 in
      (spelt, outcome_spelt src.names src.program accepted r.act (run src s r.act).outcome came (runs_are_short src s r.act kept.short).0)

  module _ (s : State) (kept : IsKept s) where
    -- each by itself
    pub entries_spelt : (rs : List Request) → AllByRecursion (RequestFits tables) rs → AllByRecursion IsSpeltRequest rs
        → AllByRecursion IsSpeltEntry (over (entry_on src s) rs)
    entries_spelt [] fit spelt = tt
    entries_spelt (r ∷ rs) fit spelt = (entry_spelt s r kept fit.0 spelt.0, entries_spelt rs fit.1 spelt.1)

    pub state_behind : (rs : List Request) → AllByRecursion (RequestFits tables) rs → StateIsSpelt (serial_state src s (over (λ (r : Request). r.act) rs))
    state_behind rs fit =
        let after = all_kept (over (λ (r : Request). r.act) rs) s kept (asked_fit tables rs fit) in
        state_spelt src.names src.program accepted (serial_state src s (over (λ (r : Request). r.act) rs)) after.fits after.short

    pub state_behind_entries : (rs : List Request) → AllByRecursion (RequestFits tables) rs
        → StateIsSpelt (serial_state src s (acts_of (over (entry_on src s) rs)))
    state_behind_entries rs fit = subst (λ acts. StateIsSpelt (serial_state src s acts)) (acts_on src s rs) (state_behind rs fit)

  -- one after another
  pub replay_spelt : (rs : List Request) (s : State) → IsKept s → AllByRecursion (RequestFits tables) rs → AllByRecursion IsSpeltRequest rs
      → AllByRecursion IsSpeltEntry (serial_entries src s rs)
  replay_spelt [] s kept fit spelt = tt
  replay_spelt (r ∷ rs) s kept fit spelt =
      (entry_spelt s r kept fit.0 spelt.0, replay_spelt rs (run src s r.act).state (one_kept s r.act kept fit.0.act) fit.1 spelt.1)
