-- Requests that ran together, all of which are committed in their order.
use Rattle.std.proofs.Common.{◌≡◌, ℕ, Bool, true, false, true≢false, nat_eq, ◌||◌, List, [], ◌∷◌, ◌++◌, length, refl, sym, ap, ◌∙◌, subst, arith}
use Rattle.std.specs.Prelude.{IfOk, OnOk, Ok, Err}
use Rattle.std.specs.declared.alloc.AllocError.{AllocError}
use Rattle.std.specs.declared.result.Result.{Result}
use Rattle.std.specs.List.{list_any, range_with_len}
use Rattle.std.proofs.lemmas.Bool.{eqb-true}
use Rattle.std.proofs.lemmas.List.{length-map}
use Rattle.std.proofs.lemmas.List.Sorted.{length_permutation}
use Rattle.std.proofs.lemmas.List.FromFn.{length-range_with_len}
use Rattle.sf_value.specs.declared.Act.{Act}
use Rattle.sf_value.specs.declared.Request.{Request}
use Rattle.program_meaning.specs.ClassTables.{Source}
use Rattle.program_meaning.specs.World.{State}
use Rattle.program_meaning.specs.RequestRun.{run}
use Rattle.program_meaning.specs.Serial.{serial_outcomes, serial_state}
use Rattle.keyed_state.specs.declared.Work.{Work}
use Rattle.keyed_state.specs.Works.{with_records, written_records, after_writes, are_places}
use Rattle.reservations.specs.Accesses.{accesses_of, access_of_work}
use Rattle.reservations.specs.CommitRules.{IsLawful}
use Rattle.reservations.specs.BatchRule.{batch_rule}
use Rattle.reservations.specs.BatchRuleLaws.{batch_rule_is_lawful}
use Rattle.commit_order.specs.CommittedSerial.{asked_at, AreWorksOf, IsSerial}
use Rattle.aria_batch.specs.Vocabulary.{acts_of}
use Rattle.aria_batch.specs.declared.batch.BatchResult.{BatchResult}
use Rattle.aria_batch.specs.BatchRun.{own_outcomes}
use Rattle.ordered_runs.specs.InOrder.{IsTogether, IsInOrder}
use Rattle.ordered_runs.proofs.PlaceLaws.{asked_at_all}

pub chosen_lawfully : (works : List Work) (committed carried : List ℕ) → committed ≡ (batch_rule (accesses_of works)).committed → carried ≡ (batch_rule (accesses_of works)).carried → IsLawful (accesses_of works) (record { committed = committed; carried = carried })
chosen_lawfully works committed carried c d = subst (IsLawful (accesses_of works)) (λ i. record { committed = sym c i; carried = sym d i }) (batch_rule_is_lawful (accesses_of works))

-- a batch that ran under the batch rule
pub ran_together : (src : Source) (s : State) (asked : List Act) (result : Result BatchResult AllocError) → IfOk result (λ b. b.outcomes ≡ own_outcomes src s asked) → IfOk result (λ b. AreWorksOf src s asked b.works)
    → IfOk result (λ b. b.committed ≡ (batch_rule (accesses_of b.works)).committed) → IfOk result (λ b. b.carried ≡ (batch_rule (accesses_of b.works)).carried) → IfOk result (λ b. IsSerial src s asked b.works b.committed)
    → IfOk result (IsTogether src s asked)
ran_together src s asked (Ok b) outcomes works committed carried serial = record { outcomes = outcomes; works = works; lawful = chosen_lawfully b.works b.committed b.carried committed carried; serial = serial }
ran_together src s asked (Err e) outcomes works committed carried serial = tt

module _ (src : Source) (s : State) (asked : List Act) (ran : BatchResult) (t : IsTogether src s asked ran) where
  -- all of them are committed, in their order
  module _ (all : ran.committed ≡ range_with_len 0 (length asked)) where
    asked_is : asked_at asked ran.committed ≡ asked
    asked_is = ap (asked_at asked) all ∙ asked_at_all asked

    pub in_order : IsInOrder src s asked (record { outcomes = ran.outcomes; works = ran.works; places = ran.committed })
    in_order = record {
      outcomes = t.outcomes ∙ ap (own_outcomes src s) (sym asked_is) ∙ sym t.serial.outcomes ∙ ap (serial_outcomes src s) asked_is;
      works = t.works.as_many;
      places = all;
      state = sym t.serial.state ∙ ap (serial_state src s) asked_is;
    }

-- One request alone

plainly : (b : Bool) → (b || false) ≡ true → b ≡ true
plainly true h = refl
plainly false h = h

one_number : (committed carried : List ℕ) → length (committed ++ carried) ≡ 1 → list_any (nat_eq 0) committed ≡ true → committed ≡ 0 ∷ []
one_number [] carried count found = absurd (true≢false (sym found))
one_number (x ∷ []) carried count found = let same : 0 ≡ x = eqb-true 0 x (plainly (nat_eq 0 x) found) in ap (λ y. y ∷ []) (sym same)
one_number (x ∷ y ∷ more) carried count found = absurd (omega (arith, count))

one_of : {A : Type 0} (xs : List A) → length xs ≡ 1 → (x : A) × (xs ≡ x ∷ [])
one_of [] count = absurd (omega (arith, count))
one_of (x ∷ []) count = (x, refl)
one_of (x ∷ y ∷ more) count = absurd (omega (arith, count))

-- what a request that ran alone leaves
pub record IsAlone (src : Source) (s : State) (a : Act) (ran : BatchResult) : Type 0 where
  pub work : Work
  pub works : ran.works ≡ work ∷ []
  pub committed : ran.committed ≡ 0 ∷ []
  pub outcomes : ran.outcomes ≡ (run src s a).outcome ∷ []
  pub writes : with_records s (written_records work) ≡ (run src s a).state

module _ (src : Source) (s : State) (a : Act) (ran : BatchResult) (t : IsTogether src s (a ∷ []) ran) where
  one_access : length (accesses_of ran.works) ≡ 1
  one_access = length-map ran.works access_of_work ∙ t.works.as_many

  committed_alone : ran.committed ≡ 0 ∷ []
  committed_alone =
      one_number ran.committed ran.carried
      (length_permutation (range_with_len 0 (length (accesses_of ran.works))) (ran.committed ++ ran.carried) t.lawful.once ∙ length-range_with_len 0 (length (accesses_of ran.works)) ∙ one_access)
      (t.lawful.first (omega (arith, one_access)))

  alone_serial : serial_state src s (a ∷ []) ≡ (run src s a).state
  unfolding serial_state
  alone_serial = refl

  pub alone : IsAlone src s a ran
  alone =
      let one = one_of ran.works t.works.as_many in
      record {
        work = one.0;
        works = one.1;
        committed = committed_alone;
        outcomes = t.outcomes;
        writes =
            (λ i. after_writes s (sym one.1 i) (sym committed_alone i))
            ∙ sym t.serial.state
            ∙ ap (λ places. serial_state src s (asked_at (a ∷ []) places)) committed_alone
            ∙ ap (serial_state src s) (asked_at_all (a ∷ []))
            ∙ alone_serial;
      }

-- the writes of one that ran alone can be made
pub alone_places : (works : List Work) (committed : List ℕ) (w : Work) → works ≡ w ∷ [] → committed ≡ 0 ∷ [] → are_places (length works) committed ≡ true
alone_places works committed w one first = λ i. are_places (length (one i)) (first i)

pub after_alone : (s : State) (works : List Work) (committed : List ℕ) (w : Work) → works ≡ w ∷ [] → committed ≡ 0 ∷ [] → after_writes s works committed ≡ with_records s (written_records w)
after_alone s works committed w one first = λ i. after_writes s (one i) (first i)

-- a request that ran alone
pub alone_of : (src : Source) (s : State) (requests : List Request) (r : Request) (ran : BatchResult) → requests ≡ r ∷ [] → IsTogether src s (acts_of requests) ran → IsAlone src s r.act ran
alone_of src s requests r ran is t = alone src s r.act ran (subst (λ rs. IsTogether src s (acts_of rs) ran) is t)

-- What holds in any case, and what follows where a result is Ok

pub on_ok : {A E P : Type 0} (result : Result A E) → P → OnOk result P
on_ok (Ok x) p = p
on_ok (Err e) p = tt

pub on_ok_then : {A E P Q : Type 0} (result : Result A E) → OnOk result P → (P → Q) → OnOk result Q
on_ok_then (Ok x) p f = f p
on_ok_then (Err e) p f = tt
