-- Requests that run one by one, as far as they have come.
use Rattle.std.proofs.Common.{◌≡◌, ℕ, zero, suc, ◌+◌, ◌<◌, List, [], ◌∷◌, ◌++◌, length, take, get_or, refl, sym, ap, ◌∙◌, subst, arith}
use Rattle.std.specs.List.{AllByRecursion, range_with_len}
use Rattle.std.proofs.lemmas.List.{take_more, map-append, length-append}
use Rattle.py_tree.specs.ClassRules.{PlainTable, tables_of}
use Rattle.py_tree.specs.PlainProgram.{PlainProgram}
use Rattle.sf_value.specs.declared.Act.{Act}
use Rattle.sf_value.specs.declared.Request.{Request}
use Rattle.program_meaning.specs.ClassTables.{Source}
use Rattle.program_meaning.specs.World.{State}
use Rattle.program_meaning.specs.RequestRun.{run}
use Rattle.program_meaning.specs.Serial.{serial_outcomes, serial_state}
use Rattle.program_meaning.specs.Fits.{StateFits, ActFits}
use Rattle.program_meaning.specs.NothingGoesWrong.{IsKnownAccepted}
use Rattle.program_meaning.proofs.Soundness.{runs_fit}
use Rattle.keyed_state.specs.Works.{with_records, written_records, after_writes}
use Rattle.quiet_methods.specs.MarksKeepWithin.{source}
use Rattle.aria_batch.specs.Vocabulary.{acts_of}
use Rattle.ordered_runs.specs.declared.ordered.Ordered.{Ordered}
use Rattle.ordered_runs.specs.InOrder.{IsInOrder, HasJoined}
use Rattle.ordered_runs.proofs.PlaceLaws.{one_place_more, one_work_more}

-- these requests have run, one after another, and left this state
pub record HasRun (src : Source) (tables : List PlainTable) (s : State) (asked : List Act) (left : State) (ran : Ordered) : Type 0 where
  pub outcomes : ran.outcomes ≡ serial_outcomes src s asked
  pub state : left ≡ serial_state src s asked
  pub count : length ran.works ≡ length asked
  pub places : ran.places ≡ range_with_len 0 (length asked)
  pub writes : after_writes s ran.works ran.places ≡ left
  pub fits : StateFits tables left

-- One request more

module _ (src : Source) where
  outcomes_more : (asked : List Act) (a : Act) (s : State) → serial_outcomes src s (asked ++ a ∷ []) ≡ serial_outcomes src s asked ++ (run src (serial_state src s asked) a).outcome ∷ []
  unfolding serial_outcomes serial_state
  outcomes_more [] a s = refl
  outcomes_more (x ∷ asked) a s = ap (λ l. (run src s x).outcome ∷ l) (outcomes_more asked a (run src s x).state)

  state_more : (asked : List Act) (a : Act) (s : State) → serial_state src s (asked ++ a ∷ []) ≡ (run src (serial_state src s asked) a).state
  unfolding serial_state
  state_more [] a s = refl
  state_more (x ∷ asked) a s = state_more asked a (run src s x).state

  pub none_has_run : (tables : List PlainTable) (s left : State) (ran : Ordered) → left ≡ s → ran ≡ record { outcomes = []; works = []; places = [] } → StateFits tables s → HasRun src tables s [] left ran
  unfolding serial_outcomes serial_state
  none_has_run tables s left ran same none fits = record {
    outcomes = ap (λ (r : Ordered). r.outcomes) none;
    state = same;
    count = ap (λ (r : Ordered). length r.works) none;
    places = ap (λ (r : Ordered). r.places) none;
    writes = ap (λ (r : Ordered). after_writes s r.works r.places) none ∙ sym same;
    fits = subst (StateFits tables) (sym same) fits;
  }

module _ (names : List (List ℕ)) (program : PlainProgram) (accepted : IsKnownAccepted names program) (tables : List PlainTable) (has : tables ≡ tables_of names program) (s : State) where
  next_fits : (left : State) (a : Act) → StateFits tables left → ActFits tables a → StateFits tables (run (source names program) left a).state
  next_fits left a fits fit =
      subst (λ ts. StateFits ts (run (source names program) left a).state) (sym has)
      (runs_fit names program accepted left a (subst (λ ts. StateFits ts left) has fits) (subst (λ ts. ActFits ts a) has fit)).0

  pub one_has_run : (asked : List Act) (a : Act) (left after : State) (old new : Ordered) → ActFits tables a → HasRun (source names program) tables s asked left old → after ≡ (run (source names program) left a).state
      → HasJoined (source names program) left a old new → HasRun (source names program) tables s (asked ++ a ∷ []) after new
  one_has_run asked a left after old new fit r moved j =
      let src = source names program in
      let longer : length (asked ++ a ∷ []) ≡ length asked + 1 = length-append asked (a ∷ []) in
      record {
        outcomes = j.outcomes ∙ (λ i. r.outcomes i ++ (run src (r.state i) a).outcome ∷ []) ∙ sym (outcomes_more src asked a s);
        state = moved ∙ ap (λ l. (run src l a).state) r.state ∙ sym (state_more src asked a s);
        count = ap length j.works ∙ length-append old.works (j.work ∷ []) ∙ ap (λ n. n + 1) r.count ∙ sym longer;
        places = j.places ∙ (λ i. r.places i ++ r.count i ∷ []) ∙ sym (one_place_more (length asked)) ∙ ap (range_with_len 0) (sym longer);
        writes =
            (λ i. after_writes s (j.works i) ((j.places ∙ ap (λ l. l ++ length old.works ∷ []) r.places) i))
            ∙ one_work_more old.works j.work (length asked) s (sym r.count)
            ∙ ap (λ l. with_records l (written_records j.work)) (ap (after_writes s old.works) (sym r.places) ∙ r.writes)
            ∙ j.writes
            ∙ sym moved;
        fits = subst (StateFits tables) (sym moved) (next_fits left a r.fits fit);
      }

-- the requests so far, with the next one
pub acts_more : (rs : List Request) (i : ℕ) (r : Request) → i < length rs → r ≡ get_or rs i r → acts_of (take (i + 1) rs) ≡ acts_of (take i rs) ++ r.act ∷ []
acts_more rs i r within is = ap acts_of (take_more rs i r within ∙ ap (λ x. take i rs ++ x ∷ []) (sym is)) ∙ map-append (λ (x : Request). x.act) (take i rs) (r ∷ [])

pub act_fits_at : (tables : List PlainTable) (rs : List Request) (i : ℕ) (r : Request) → i < length rs → r ≡ get_or rs i r → AllByRecursion (ActFits tables) (acts_of rs) → ActFits tables r.act
act_fits_at tables [] i r within is all = absurd (omega (arith, within))
act_fits_at tables (x ∷ rs) zero r within is all = subst (λ (q : Request). ActFits tables q.act) (sym is) all.0
act_fits_at tables (x ∷ rs) (suc i) r within is all = act_fits_at tables rs i r (omega (arith, within)) is all.1

-- all of them
pub in_order : (src : Source) (tables : List PlainTable) (s : State) (asked : List Act) (left : State) (ran : Ordered) → HasRun src tables s asked left ran → IsInOrder src s asked ran
in_order src tables s asked left ran r = record {
  outcomes = r.outcomes;
  works = r.count;
  places = r.places;
  state = r.writes ∙ r.state;
}
