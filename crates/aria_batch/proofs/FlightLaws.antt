-- Transactions in flight, once all are over: their works, and what they have come to.
use Rattle.std.proofs.Common.{◌≡◌, ◌∙◌, ℕ, suc, arith, Bool, true, false, Some, None, List, [], ◌∷◌, length, map as over, refl, sym, ap, subst}
use Rattle.std.specs.Prelude.{if◌then◌else◌}
use Rattle.std.proofs.lemmas.Option.{same_Some, none-some}
use Rattle.py_tree.specs.ClassRules.{PlainTable}
use Rattle.sf_value.specs.declared.Act.{Act}
use Rattle.sf_value.specs.declared.Outcome.TheVariants as outcome
use Rattle.program_meaning.specs.ClassTables.{Source}
use Rattle.program_meaning.specs.World.{State, World}
use Rattle.program_meaning.specs.RequestRun.{Ran, run}
use Rattle.keyed_state.specs.declared.Work.{Work}
use Rattle.block_code.specs.declared.event.EventKind.{EventKind}
use Rattle.block_code.specs.declared.event.EventKind.TheVariants as kind
use Rattle.block_code.specs.PlainBlocks.{PlainBlock}
use Rattle.request_events.specs.RequestEvents.{ended_as}
use Rattle.interleaving.specs.Turns.{Parts, running}
use Rattle.batch_events.specs.Vocabulary.{Transaction, is_done, Told, transactions, EachBuffers, Flight, come_to, all_come_to, EachTransaction}
use Rattle.batch_events.specs.BatchRuns.{come_to as ended_so, AreRuns}
use Rattle.aria_batch.specs.BatchRun.{own_outcomes}

-- Where they are over

none_runs : (b : Bool) (n : ℕ) → (if b then n else suc n) ≡ 0 → (b ≡ true) × (n ≡ 0)
none_runs true n h = (refl, h)
none_runs false n h = absurd (omega (arith, h))

module _ (src : Source) (tables : List PlainTable) (graph : List (List PlainBlock)) (parts : ℕ) (snapshot : State) where
  abbrev m : Parts Transaction Told
  m = transactions src tables graph parts

  -- the works are of what the transactions have done
  pub each_buffers : (ts : List Transaction) (fs : List Flight) (works : List Work) → EachTransaction snapshot ts fs works → running m ts ≡ 0 → EachBuffers ts works
  unfolding running
  each_buffers [] [] [] are none = tt
  each_buffers [] [] (w ∷ ws) are none = absurd are
  each_buffers [] (f ∷ fs) ws are none = absurd are
  each_buffers (t ∷ ts) [] ws are none = absurd are
  each_buffers (t ∷ ts) (f ∷ fs) [] are none = absurd are
  each_buffers (t ∷ ts) (f ∷ fs) (w ∷ ws) are none =
      let both : (is_done t.next.kind ≡ true) × (running m ts ≡ 0) = none_runs (is_done t.next.kind) (running m ts) none in
      (are.0.is_over (subst (λ e. is_done e.kind ≡ true) are.0.next both.0), each_buffers ts fs ws are.1 both.1)

outcome_of : (snapshot : State) (w : World) (n : ℕ) (k : EventKind) (ran : Ran) → ended_as snapshot w n k ≡ Some ran → come_to k ≡ ran.outcome
outcome_of snapshot w n (kind.Enter at method args) ran is = absurd (none-some ran is)
outcome_of snapshot w n (kind.Make at args) ran is = absurd (none-some ran is)
outcome_of snapshot w n (kind.Resume o) ran is = absurd (none-some ran is)
outcome_of snapshot w n (kind.Done (outcome.Value v)) ran is = ap (λ ran. ran.outcome) (same_Some _ _ is)
outcome_of snapshot w n (kind.Done (outcome.Failed f)) ran is = ap (λ ran. ran.outcome) (same_Some _ _ is)

-- two lists that are one begin alike, and go on alike
abbrev first_or : {A : Type 0} → A → List A → A
first_or other [] = other
first_or other (x ∷ xs) = x

abbrev others : {A : Type 0} → List A → List A
others [] = []
others (x ∷ xs) = xs

module _ (src : Source) (snapshot : State) where
  -- flights of transactions that have come to runs have come to their outcomes
  pub outcomes_are : (asked : List Act) (ts : List Transaction) (fs : List Flight) (works : List Work) → AreRuns src snapshot asked ts → EachTransaction snapshot ts fs works → all_come_to fs ≡ own_outcomes src snapshot asked
  outcomes_are [] [] [] [] are each = refl
  outcomes_are asked [] [] (w ∷ ws) are each = absurd each
  outcomes_are asked [] (f ∷ fs) ws are each = absurd each
  outcomes_are asked (t ∷ ts) [] ws are each = absurd each
  outcomes_are asked (t ∷ ts) (f ∷ fs) [] are each = absurd each
  outcomes_are (a ∷ more) [] [] [] are each = let longer : 0 ≡ suc (length (over (λ asked. Some (run src snapshot asked)) more)) = ap length are in absurd (omega (arith, longer))
  outcomes_are [] (t ∷ ts) (f ∷ fs) (w ∷ ws) are each = let longer : suc (length (over (ended_so snapshot) ts)) ≡ 0 = ap length are in absurd (omega (arith, longer))
  outcomes_are (a ∷ more) (t ∷ ts) (f ∷ fs) (w ∷ ws) are each =
      let one : come_to f.next.kind ≡ (run src snapshot a).outcome = ap (λ e. come_to e.kind) (sym each.0.next) ∙ outcome_of snapshot t.world t.next.steps t.next.kind (run src snapshot a) (ap (first_or None) are) in
      λ i. one i ∷ outcomes_are more ts fs ws (ap others are) each.1 i
