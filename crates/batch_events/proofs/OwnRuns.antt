-- What each transaction comes to alone: its events handled one after another with enough blocks, as its request's run.
use Rattle.std.proofs.Common.{◌≡◌, ◌≤◌, ◌∙◌, ℕ, suc, arith, true, Some, List, [], ◌∷◌, length, map as over, refl, sym, ap, subst}
use Rattle.std.specs.List.{AllByRecursion}
use Rattle.std.proofs.lemmas.List.{length-map}
use Rattle.std.proofs.lemmas.Option.{none-some}
use Rattle.py_tree.specs.PlainProgram.{PlainProgram}
use Rattle.py_tree.specs.ClassRules.{PlainTable, tables_of}
use Rattle.sf_value.specs.declared.Act.{Act}
use Rattle.program_meaning.specs.ClassTables.{Source}
use Rattle.program_meaning.specs.World.{State, World}
use Rattle.program_meaning.specs.Fits.{StateFits, ActFits}
use Rattle.program_meaning.specs.RequestRun.{Ran, at_first}
use Rattle.program_meaning.specs.NothingGoesWrong.{IsKnownAccepted}
use Rattle.block_code.specs.declared.event.Event.{Event}
use Rattle.block_code.specs.declared.event.EventKind.{EventKind}
use Rattle.block_code.specs.declared.event.EventKind.TheVariants as kind
use Rattle.block_code.specs.PlainBlocks.{PlainBlock}
use Rattle.block_code.specs.GraphFits.{GraphFits}
use Rattle.block_code.specs.EventsFit.{EventFits}
use Rattle.block_runs.specs.EventStep.{lasts}
use Rattle.operator_graph.specs.Telling.{Told}
use Rattle.request_events.specs.RequestEvents.{first_event, Handles, Comes, ended_as}
use Rattle.request_events.specs.GraphMeans.{EndsAsRun, GraphMeans}
use Rattle.interleaving.specs.AsAlone.{sum_of, Alone, Ends, EachEnds, AreAsAlone}
use Rattle.interleaving.proofs.TurnLaws.{all_come_to_their_own}
use Rattle.transaction_steps.specs.Transactions.{Transaction, begun, firsts, is_done}
use Rattle.transaction_steps.proofs.WhatFits.{not_done, first_fits, handled_fits, handled_so}
use Rattle.operator_graph.specs.BatchEvents.{event_told, transactions}
use Rattle.batch_events.specs.BatchRuns.{OwnRun, as_told, come_to, AreRuns, ComesToRuns, BatchesComeToTheirRuns}

-- Events that are over

done_where_ended : (s : State) (w : World) (n : ℕ) (k : EventKind) (ran : Ran) → ended_as s w n k ≡ Some ran → is_done k ≡ true
done_where_ended s w n (kind.Enter at method args) ran is = absurd (none-some ran is)
done_where_ended s w n (kind.Make at args) ran is = absurd (none-some ran is)
done_where_ended s w n (kind.Resume o) ran is = absurd (none-some ran is)
done_where_ended s w n (kind.Done o) ran is = refl

-- What is noted

notes_count : (parts : ℕ) (rs : List OwnRun) → sum_of (λ (a : Alone Transaction Told). length a.notes) (over (as_told parts) rs) ≡ sum_of (λ (r : OwnRun). length r.events) rs
unfolding sum_of
notes_count parts [] = refl
notes_count parts (r ∷ rs) =
    let one : length (over (event_told parts) r.events) ≡ length r.events = length-map r.events (event_told parts) in
    let more : sum_of (λ (a : Alone Transaction Told). length a.notes) (over (as_told parts) rs) ≡ sum_of (λ (r : OwnRun). length r.events) rs = notes_count parts rs in
    omega (arith, one, more)

lasts_told : (parts : ℕ) (rs : List OwnRun) → over (λ (a : Alone Transaction Told). a.last) (over (as_told parts) rs) ≡ over (λ (r : OwnRun). r.last) rs
lasts_told parts [] = refl
lasts_told parts (r ∷ rs) = ap (λ ts. r.last ∷ ts) (lasts_told parts rs)

module _ (names : List (List ℕ)) (program : PlainProgram) (accepted : IsKnownAccepted names program) (graph : List (List PlainBlock)) (fits : GraphFits names program graph) where
  abbrev src : Source
  src = record { program = program; names = names }

  abbrev tables : List PlainTable
  tables = tables_of names program

  -- Events

  events_end : (parts : ℕ) (events : List Event) (w : World) (e : Event) (world : World) (last : Event) → StateFits tables w.state → EventFits tables graph e → Comes src tables graph w e events world last → is_done last.kind ≡ true
      → Ends (transactions src tables graph parts) (record { world = w; next = e }) (over (event_told parts) events) (record { world = world; next = last })
  unfolding Comes
  events_end parts [] w e world last state fit c done = (ap (λ (e : Event). is_done e.kind) (sym c.1) ∙ done, λ i. record { world = sym c.0 i; next = sym c.1 i })
  events_end parts (first ∷ more) w e world last state fit c done =
      let h : Handles src tables graph w e c.1 c.2 = c.3 in
      let next : StateFits tables c.1.state × EventFits tables graph c.2 = handled_fits names program accepted graph fits w e c.1 c.2 state fit h in (
        not_done e.kind (lasts e.frames) h.target h.is_target,
        ap (event_told parts) (sym c.0),
        subst (λ t. Ends (transactions src tables graph parts) t (over (event_told parts) more) (record { world = world; next = last })) (sym (handled_so names program accepted graph fits w e c.1 c.2 fit h)) (events_end parts more c.1 c.2 world last next.0 next.1 c.4 done),
      )

  -- Batches

  module _ (mean : GraphMeans names program graph) (snapshot : State) (state : StateFits tables snapshot) where
    ended : (tx : ℕ) (asked : Act) → ActFits tables asked → EndsAsRun src tables graph tx snapshot asked
    ended tx asked fit = mean snapshot state asked fit tx

    own_runs : (tx : ℕ) (batch : List Act) → AllByRecursion (ActFits tables) batch → List OwnRun
    own_runs tx [] each = []
    own_runs tx (asked ∷ later) each = let e = ended tx asked each.0 in record { events = e.events; last = record { world = e.world; next = e.last } } ∷ own_runs (suc tx) later each.1

    each_is_run : (tx : ℕ) (batch : List Act) (each : AllByRecursion (ActFits tables) batch) → AreRuns src snapshot batch (over (λ (r : OwnRun). r.last) (own_runs tx batch each))
    unfolding own_runs
    each_is_run tx [] each = refl
    each_is_run tx (asked ∷ later) each = λ i. (ended tx asked each.0).is i ∷ each_is_run (suc tx) later each.1 i

    each_ends : (parts tx : ℕ) (batch : List Act) (each : AllByRecursion (ActFits tables) batch) → EachEnds (transactions src tables graph parts) (begun src snapshot tx batch) (over (as_told parts) (own_runs tx batch each))
    unfolding begun own_runs
    each_ends parts tx [] each = tt
    each_ends parts tx (asked ∷ later) each =
        let e = ended tx asked each.0 in
        (events_end parts e.events (at_first snapshot) (first_event src tx asked) e.world e.last state (first_fits names program graph tx asked each.0) e.by (done_where_ended snapshot e.world e.last.steps e.last.kind _ e.is), each_ends parts (suc tx) later each.1)

    along_picks : (parts : ℕ) (batch : List Act) (each : AllByRecursion (ActFits tables) batch) → AreAsAlone (transactions src tables graph parts) (firsts src snapshot batch) (over (as_told parts) (own_runs 0 batch each))
    along_picks parts batch each = all_come_to_their_own (transactions src tables graph parts) (firsts src snapshot batch) (over (as_told parts) (own_runs 0 batch each)) (each_ends parts 0 batch each)

    comes_to_runs : (batch : List Act) → AllByRecursion (ActFits tables) batch → ComesToRuns src tables graph snapshot batch
    comes_to_runs batch each = record {
      alone = own_runs 0 batch each;
      ends = λ parts. each_ends parts 0 batch each;
      alone_are = each_is_run 0 batch each;
      along_picks = λ parts. along_picks parts batch each;
      end = λ parts picks few. (along_picks parts batch each).end picks (subst (λ n. n ≤ length picks) (sym (notes_count parts (own_runs 0 batch each))) few);
      are = λ parts picks is_over. ap (over (come_to snapshot)) ((along_picks parts batch each).last picks is_over ∙ lasts_told parts (own_runs 0 batch each)) ∙ each_is_run 0 batch each;
      count = λ parts picks is_over. (along_picks parts batch each).count picks is_over ∙ notes_count parts (own_runs 0 batch each);
    }

pub batches_come_to_their_runs : BatchesComeToTheirRuns
batches_come_to_their_runs names program accepted graph fits mean snapshot state batch each = comes_to_runs names program accepted graph fits mean snapshot state batch each
