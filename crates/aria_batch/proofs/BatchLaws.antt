-- A batch under way: what was told so far, and what it comes to.
use Rattle.std.proofs.Common.{◌≡◌, ◌∙◌, ℕ, arith, ◌+◌, ◌<◌, Bool, true, false, true≢false, Ok, Err, Some, None, List, [], ◌∷◌, ◌++◌, length, length-append, sym, ap, subst}
use Rattle.std.specs.Prelude.{IsErr}
use Rattle.std.specs.declared.result.Result.{Result}
use Rattle.std.specs.declared.alloc.AllocError.{AllocError}
use Rattle.std.specs.List.{AllByRecursion}
use Rattle.sf_value.specs.declared.Act.{Act}
use Rattle.sf_value.specs.declared.Request.{Request}
use Rattle.program_meaning.specs.World.{State}
use Rattle.program_meaning.specs.Fits.{StateFits, ActFits}
use Rattle.program_meaning.proofs.Soundness.{checked_are_known}
use Rattle.keyed_state.specs.declared.Work.{Work}
use Rattle.commit_order.specs.CommittedSerial.{AreWorksOf}
use Rattle.block_step.specs.declared.compiled.Compiled.{Compiled}
use Rattle.block_step.specs.CompiledViews.{compiled_program, compiled_names, compiled_tables, compiled_blocks, IsWhole}
use Rattle.interleaving.specs.Turns.{Parts, running, told, after, counts, along}
use Rattle.batch_events.specs.Vocabulary.{Transaction, firsts, Told, AlsoTold, Flight, all_come_to, EachTransaction, turns_of, Outside, PicksOne, Turns, acts_of}
use Rattle.batch_events.specs.BatchRuns.{AreRuns, ComesToRuns}
use Rattle.batch_events.proofs.OwnRuns.{batches_come_to_their_runs}
use Rattle.batch_events.proofs.BatchWorks.{works_are}
use Rattle.aria_batch.specs.declared.events.Ended.{Ended}
use Rattle.aria_batch.specs.Counts.{counted_in_run}
use Rattle.aria_batch.specs.BatchRun.{source_of, own_outcomes, Batch, batch_of, AlsoPicked, IsToldAlong}
use Rattle.aria_batch.proofs.PickLaws.{none_picked, one_picked, none_told, more_told, nothing_picked, none_counted, after_one_more, counts_one_more, along_one_more, one_more_note}
use Rattle.aria_batch.proofs.FlightLaws.{each_buffers, outcomes_are}

-- where memory ran out no events are counted
pub uncounted : (b : Batch) (parts : ℕ) (r : Result Ended AllocError) (old new : Outside) → IsErr r → IsToldAlong b parts None old new → IsToldAlong b parts (counted_in_run r) old new
uncounted b parts (Ok e) old new h told = absurd (true≢false (sym h))
uncounted b parts (Err e) old new h told = told

-- the batches of a compiled program come to their requests' runs
come_to_runs : (c : Compiled) → IsWhole c → (snapshot : State) → StateFits (compiled_tables c) snapshot → (asked : List Act) → AllByRecursion (ActFits (compiled_tables c)) asked
    → ComesToRuns (source_of c) (compiled_tables c) (compiled_blocks c) snapshot asked
come_to_runs c whole snapshot state asked fit =
    let known = subst (λ ts. StateFits ts snapshot) whole.has_tables state in
    let each = subst (λ ts. AllByRecursion (ActFits ts) asked) whole.has_tables fit in
    subst (λ ts. ComesToRuns (source_of c) ts (compiled_blocks c) snapshot asked) (sym whole.has_tables)
    (batches_come_to_their_runs (compiled_names c) (compiled_program c) (checked_are_known c.program) (compiled_blocks c) whole.fits whole.means snapshot known asked each)

positive : (n : ℕ) → (n ≡ 0 → ⊥) → 0 < n
positive n some = omega (arith, some)

module _ (c : Compiled) (snapshot : State) (requests : List Request) (parts : ℕ) where
  abbrev m : Parts Transaction Told
  m = turns_of c parts

  abbrev begun : List Transaction
  begun = firsts (source_of c) snapshot (acts_of requests)

  -- along some picks: they are told besides, and the events along them, of which there were so many
  pub record PickedSoFar (events : ℕ) (old new : Outside) (picks : List ℕ) : Type 0 where
    pub picked : AlsoPicked old.choices new.choices (counts m picks begun) picks
    pub told_of_them : AlsoTold old.told new.told (along m picks begun)
    pub one_each : length picks ≡ length (along m picks begun)
    pub counted : events ≡ length (along m picks begun)

  -- and the transactions are what these picks have made of them
  pub record SoFar (events : ℕ) (flights : List Flight) (works : List Work) (old new : Outside) : Type 0 where
    pub picks : List ℕ
    pub so_far : PickedSoFar events old new picks
    pub are : EachTransaction snapshot (after m picks begun) flights works

  nothing_yet : (o : Outside) → PickedSoFar 0 o o []
  nothing_yet o = record {
    picked = subst (λ l. AlsoPicked o.choices o.choices l []) (sym (none_counted m begun)) (none_picked o.choices);
    told_of_them = subst (AlsoTold o.told o.told) (sym (nothing_picked m begun).1) (none_told o.told);
    one_each = sym (ap length (nothing_picked m begun).1);
    counted = sym (ap length (nothing_picked m begun).1);
  }

  pub begins : (flights : List Flight) (works : List Work) (o : Outside) → EachTransaction snapshot begun flights works → SoFar 0 flights works o o
  begins flights works o are = record { picks = []; so_far = nothing_yet o; are = subst (λ ts. EachTransaction snapshot ts flights works) (sym (nothing_picked m begun).0) are }

  one_more : (events : ℕ) (old mid new : Outside) (picks : List ℕ) → PickedSoFar events old mid picks → (p : PicksOne m (after m picks begun) mid new) → PickedSoFar (events + 1) old new (picks ++ p.pick ∷ [])
  one_more events old mid new picks s p = record {
    picked =
        subst (λ l. AlsoPicked old.choices new.choices l (picks ++ p.pick ∷ [])) (sym (counts_one_more m picks p.pick begun))
        (one_picked old.choices mid.choices new.choices (counts m picks begun) picks (running m (after m picks begun)) p.pick s.picked p.picked);
    told_of_them =
        subst (AlsoTold old.told new.told) (sym (along_one_more m picks p.pick begun))
        (more_told old.told mid.told new.told (along m picks begun) (told m p.pick (after m picks begun)) s.told_of_them p.told_of_it);
    one_each = length-append picks (p.pick ∷ []) ∙ ap (λ n. n + 1) s.one_each ∙ sym one_note;
    counted = ap (λ n. n + 1) s.counted ∙ sym one_note;
  }
    where
      one_note : length (along m (picks ++ p.pick ∷ []) begun) ≡ length (along m picks begun) + 1
      one_note = one_more_note m picks p.pick begun (positive (running m (after m picks begun)) p.runs)

  -- nothing was told yet
  pub nothing_told : (o : Outside) → IsToldAlong (batch_of c snapshot requests) parts None o o
  nothing_told o = let s : PickedSoFar 0 o o [] = nothing_yet o in record { picks = []; picked = s.picked; told_of_them = s.told_of_them; one_each = s.one_each; ended = tt; counted_all = tt }

-- A turn, by what it answers

module _ {c : Compiled} {snapshot : State} {requests : List Request} {parts : ℕ} {events : ℕ} {flights : List Flight} {works : List Work} {old mid : Outside} (s : SoFar c snapshot requests parts events flights works old mid)
    (r : Result Bool AllocError) (after_it : List Flight) (left : List Work) (new : Outside) (turns : (ts : List Transaction) → EachTransaction snapshot ts flights works → Turns (turns_of c parts) ts snapshot r after_it left mid new) where
  -- the transactions before it
  abbrev before : List Transaction
  before = after (turns_of c parts) s.picks (firsts (source_of c) snapshot (acts_of requests))

  by_answer : (answer : Result Bool AllocError) → r ≡ answer → Turns (turns_of c parts) before snapshot answer after_it left mid new
  by_answer answer is = subst (λ a. Turns (turns_of c parts) before snapshot a after_it left mid new) is (turns before s.are)

  pub goes_on : r ≡ Ok true → SoFar c snapshot requests parts (events + 1) after_it left old new
  goes_on is =
      let t : Turns (turns_of c parts) before snapshot (Ok true) after_it left mid new = by_answer (Ok true) is in
      record {
        picks = s.picks ++ t.0.pick ∷ [];
        so_far = one_more c snapshot requests parts events old mid new s.picks s.so_far t.0;
        are = subst (λ ts. EachTransaction snapshot ts after_it left) (sym (after_one_more (turns_of c parts) s.picks t.0.pick (firsts (source_of c) snapshot (acts_of requests)))) t.1;
      }

  -- where memory runs out, what was told is the beginning of a run
  pub stops : (e : AllocError) → r ≡ Err e → IsToldAlong (batch_of c snapshot requests) parts None old new
  stops e is =
      let t : PicksOne (turns_of c parts) before mid new = by_answer (Err e) is in
      let p : PickedSoFar c snapshot requests parts (events + 1) old new (s.picks ++ t.pick ∷ []) = one_more c snapshot requests parts events old mid new s.picks s.so_far t in
      record { picks = s.picks ++ t.pick ∷ []; picked = p.picked; told_of_them = p.told_of_them; one_each = p.one_each; ended = tt; counted_all = tt }

  -- Where all are over

  module _ (is : r ≡ Ok false) where
    none_runs : running (turns_of c parts) before ≡ 0
    none_runs = (by_answer (Ok false) is).0

    are : EachTransaction snapshot before after_it left
    are = (by_answer (Ok false) is).1

    pub all_told : IsToldAlong (batch_of c snapshot requests) parts (Some events) old new
    all_told = subst (λ o. IsToldAlong (batch_of c snapshot requests) parts (Some events) old o) (sym (by_answer (Ok false) is).2)
        (record { picks = s.picks; picked = s.so_far.picked; told_of_them = s.so_far.told_of_them; one_each = s.so_far.one_each; ended = none_runs; counted_all = s.so_far.counted })

    module _ (whole : IsWhole c) (state : StateFits (compiled_tables c) snapshot) (fit : AllByRecursion (ActFits (compiled_tables c)) (acts_of requests)) where
      -- they have come to their requests' runs
      runs : AreRuns (source_of c) snapshot (acts_of requests) before
      runs = (come_to_runs c whole snapshot state (acts_of requests) fit).are parts s.picks none_runs

      pub works_of_runs : AreWorksOf (source_of c) snapshot (acts_of requests) left
      works_of_runs = works_are (source_of c) snapshot (acts_of requests) before left runs
          (each_buffers (source_of c) (compiled_tables c) (compiled_blocks c) parts snapshot before after_it left are none_runs)

      pub outcomes_of_runs : all_come_to after_it ≡ own_outcomes (source_of c) snapshot (acts_of requests)
      outcomes_of_runs = outcomes_are (source_of c) snapshot (acts_of requests) before after_it left runs are
