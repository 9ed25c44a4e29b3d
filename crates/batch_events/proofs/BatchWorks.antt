-- The works of transactions that have come to their requests' runs are works of these runs.
use Rattle.std.proofs.Common.{◌≡◌, ◌∙◌, ℕ, zero, suc, arith, true, true≢false, Some, None, List, [], ◌∷◌, length, map as over, refl, sym, ap, subst}
use Rattle.std.specs.Prelude.{slice_get}
use Rattle.std.specs.FinMap as map
use Rattle.std.specs.FinSet as set
use Rattle.std.proofs.lemmas.Option.{same_Some, none-some}
use Rattle.sf_value.specs.Keys.{Key, key_cmp}
use Rattle.sf_value.specs.declared.Act.{Act}
use Rattle.sf_value.specs.declared.Outcome.TheVariants as outcome
use Rattle.program_meaning.specs.ClassTables.{Source}
use Rattle.program_meaning.specs.World.{State, World}
use Rattle.program_meaning.specs.RequestRun.{Ran, run}
use Rattle.keyed_state.specs.declared.Work.{Work}
use Rattle.keyed_state.specs.Works.{keys_of, held_record, work_at}
use Rattle.commit_order.specs.CommittedSerial.{IsWorkOf, AreWorksOf}
use Rattle.commit_order.proofs.BatchLaws.{committed_is_serial}
use Rattle.block_code.specs.declared.event.EventKind.{EventKind}
use Rattle.block_code.specs.declared.event.EventKind.TheVariants as kind
use Rattle.request_events.specs.RequestEvents.{ended_as}
use Rattle.quiet_methods.specs.MarksKeepWithin.{source}
use Rattle.transaction_steps.specs.Transactions.{Transaction}
use Rattle.batch_events.specs.BatchRuns.{come_to, AreRuns}
use Rattle.operator_graph.specs.BufferedWorks.{written, EachBuffers}
use Rattle.batch_events.specs.BatchWorks.{CommittedAlongPicksIsSerial}
use Rattle.batch_events.proofs.OwnRuns.{batches_come_to_their_runs}

-- One transaction

work_by : (snapshot : State) (w : World) (n : ℕ) (k : EventKind) (ran : Ran) (work : Work) → ended_as snapshot w n k ≡ Some ran → keys_of work.reads ≡ w.reads → keys_of work.writes ≡ written w k
    → ((q : Key) → set.contains (written w k) q ≡ true → held_record work.held q ≡ map.get w.state q) → IsWorkOf ran work
work_by snapshot w n (kind.Enter at method args) ran work is reads writes records = absurd (none-some ran is)
work_by snapshot w n (kind.Make at args) ran work is reads writes records = absurd (none-some ran is)
work_by snapshot w n (kind.Resume o) ran work is reads writes records = absurd (none-some ran is)
work_by snapshot w n (kind.Done (outcome.Value v)) ran work is reads writes records = subst (λ ran. IsWorkOf ran work) (same_Some _ _ is) (record { reads = reads; writes = writes; records = records })
work_by snapshot w n (kind.Done (outcome.Failed f)) ran work is reads writes records =
    subst (λ ran. IsWorkOf ran work) (same_Some _ _ is) (record { reads = reads; writes = writes; records = λ q there. absurd (true≢false (sym there ∙ set.contains-empty key_cmp q)) })

-- A batch

-- two lists that are one begin alike, and go on alike
abbrev first_or : {A : Type 0} → A → List A → A
first_or other [] = other
first_or other (x ∷ xs) = x

abbrev others : {A : Type 0} → List A → List A
others [] = []
others (x ∷ xs) = xs

module _ (src : Source) (snapshot : State) where
  pub works_are : (batch : List Act) (ts : List Transaction) (works : List Work) → AreRuns src snapshot batch ts → EachBuffers ts works → AreWorksOf src snapshot batch works
  works_are [] [] [] are each = record { as_many = refl; each = λ place asked is. absurd (none-some asked is) }
  works_are [] [] (work ∷ works) are each = absurd each
  works_are batch (t ∷ ts) [] are each = absurd each
  works_are [] (t ∷ ts) (work ∷ works) are each = let longer : suc (length (over (come_to snapshot) ts)) ≡ 0 = ap length are in absurd (omega (arith, longer))
  works_are (asked ∷ batch) [] works are each = let longer : 0 ≡ suc (length (over (λ asked. Some (run src snapshot asked)) batch)) = ap length are in absurd (omega (arith, longer))
  works_are (asked ∷ batch) (t ∷ ts) (work ∷ works) are each =
      let more : AreWorksOf src snapshot batch works = works_are batch ts works (ap others are) each.1 in
      let one : IsWorkOf (run src snapshot asked) work = work_by snapshot t.world t.next.steps t.next.kind (run src snapshot asked) work (ap (first_or None) are) each.0.reads each.0.writes each.0.records in
      record { as_many = ap suc more.as_many; each = λ place. at place one more }
    where
      at : (place : ℕ) → IsWorkOf (run src snapshot asked) work → AreWorksOf src snapshot batch works → (other : Act) → slice_get (asked ∷ batch) place ≡ Some other → IsWorkOf (run src snapshot other) (work_at (work ∷ works) place)
      at zero one more other is = subst (λ act. IsWorkOf (run src snapshot act) work) (same_Some _ _ is) one
      at (suc place) one more other is = more.each place other is

pub committed_along_picks : CommittedAlongPicksIsSerial
committed_along_picks names program accepted graph fits mean snapshot state batch each parts picks is_over works buffers chosen lawful =
    let comes = batches_come_to_their_runs names program accepted graph fits mean snapshot state batch each in
    committed_is_serial (source names program) snapshot batch works chosen (works_are (source names program) snapshot batch _ works (comes.are parts picks is_over) buffers) lawful
