-- A batch that ran, and what a lawful rule chose of it.
use Rattle.std.proofs.Common.{◌≡◌, ℕ, suc, ◌≤◌, true, true≢false, nat_eq, List, [], ◌∷◌, ◌++◌, map as over, length, refl, sym, ◌∙◌, subst, arith}
use Rattle.std.specs.List.{AllByRecursion, list_any, range_with_len}
use Rattle.std.specs.List.Sorted.{IsPermutation, IsStrictlyIncreasing}
use Rattle.std.proofs.lemmas.List.{length-map}
use Rattle.py_tree.specs.ClassRules.{PlainTable}
use Rattle.sf_value.specs.declared.Act.{Act}
use Rattle.sf_value.specs.declared.Request.{Request}
use Rattle.program_meaning.specs.ClassTables.{Source}
use Rattle.program_meaning.specs.World.{State}
use Rattle.program_meaning.specs.RequestRun.{run}
use Rattle.program_meaning.specs.Fits.{ActFits}
use Rattle.keyed_state.specs.declared.Work.{Work}
use Rattle.keyed_state.specs.Works.{are_places}
use Rattle.serial_order.specs.ConflictFree.{Access, access_of, runs_on}
use Rattle.reservations.specs.Accesses.{accesses_of, access_of_work}
use Rattle.reservations.specs.CommitRules.{Chosen, IsLawful}
use Rattle.reservations.proofs.Lawful.{committed_places}
use Rattle.commit_order.specs.CommittedSerial.{IsWorkOf, AreWorksOf, IsSerial}
use Rattle.request_history.specs.SoundHistory.{RequestFits}
use Rattle.ordered_runs.specs.Vocabulary.{BatchResult, acts_of, own_outcomes}
use Rattle.engine.specs.Cores.{Core}
use Rattle.engine.specs.Batches.{other_places}
use Rattle.engine.specs.RanBatches.{IsRun}
use Rattle.engine.proofs.CarriedLaws.{carried_are}

-- What is asked fits

pub asked_fit : (tables : List PlainTable) (requests : List Request) → AllByRecursion (RequestFits tables) requests → AllByRecursion (ActFits tables) (acts_of requests)
asked_fit tables [] all = tt
asked_fit tables (r ∷ rs) all = (all.0.act, asked_fit tables rs all.1)

-- A works' accesses are those of the runs

module _ (src : Source) (s : State) where
  pub works_accesses : (batch : List Act) (works : List Work) → AreWorksOf src s batch works → accesses_of works ≡ over access_of (runs_on src s batch)
  works_accesses [] [] are = refl
  works_accesses [] (w ∷ works) are = absurd (omega (arith, are.as_many))
  works_accesses (a ∷ batch) [] are = absurd (omega (arith, are.as_many))
  works_accesses (a ∷ batch) (w ∷ works) are =
      let first : IsWorkOf (run src s a) w = are.each 0 a refl in
      let later : AreWorksOf src s batch works = record { as_many = omega (arith, are.as_many); each = λ place asked is. are.each (suc place) asked is } in
      λ i. record { reads = first.reads i; writes = first.writes i } ∷ works_accesses batch works later i

-- What was run

module _ (src : Source) (core : Core) (ran : BatchResult) (chosen : Chosen) (works : AreWorksOf src core.state (acts_of core.pending) ran.works) (lawful : IsLawful (accesses_of ran.works) chosen)
    (committed : ran.committed ≡ chosen.committed) (carried : ran.carried ≡ chosen.carried) where
  as_many : length (accesses_of ran.works) ≡ length core.pending
  as_many = length-map ran.works access_of_work ∙ works.as_many ∙ length-map core.pending (λ r. r.act)

  split : IsPermutation (range_with_len 0 (length core.pending)) (ran.committed ++ ran.carried)
  split = subst (λ l. IsPermutation (range_with_len 0 (length core.pending)) l) (λ i. sym committed i ++ sym carried i) (subst (λ n. IsPermutation (range_with_len 0 n) (chosen.committed ++ chosen.carried)) as_many lawful.once)

  others : ran.carried ≡ other_places (length core.pending) ran.committed
  others = carried_are (length core.pending) ran.committed ran.carried split (subst IsStrictlyIncreasing (sym carried) lawful.rises)

  pub is_run : ran.outcomes ≡ own_outcomes src core.state (acts_of core.pending) → IsSerial src core.state (acts_of core.pending) ran.works ran.committed → IsRun src core ran
  is_run outcomes serial = record {
    once = subst (λ l. IsPermutation (range_with_len 0 (length core.pending)) (ran.committed ++ l)) others split;
    carried = others;
    places = (λ i. are_places (sym (length-map ran.works access_of_work) i) (committed i)) ∙ committed_places (accesses_of ran.works) chosen lawful;
    outcomes = outcomes;
    serial = serial;
  }

-- A lawful rule commits one of some

some_found : (xs : List ℕ) → list_any (nat_eq 0) xs ≡ true → 1 ≤ length xs
some_found [] found = absurd (true≢false (sym found))
some_found (x ∷ xs) found = omega arith

pub some_committed : (batch : List Access) (chosen : Chosen) (committed : List ℕ) → IsLawful batch chosen → committed ≡ chosen.committed → 1 ≤ length batch → 1 ≤ length committed
some_committed batch chosen committed lawful is some = subst (λ l. 1 ≤ length l) (sym is) (some_found chosen.committed (lawful.first some))
