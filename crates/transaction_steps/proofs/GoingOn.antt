-- A transaction that fits goes on until it is over.
use Rattle.std.proofs.Common.{◌≡◌, ◌≤◌, ◌<◌, ℕ, arith, true, false, true≢false, Option, Some, None, List, [], ◌∷◌, length, refl, sym, ap, subst}
use Rattle.std.specs.Prelude.{is_some, slice_get, option_and_then}
use Rattle.std.specs.FinMap as map
use Rattle.std.proofs.lemmas.List.{length-map}
use Rattle.std.proofs.lemmas.Option.{same_Some, none-some, slice_get_within}
use Rattle.py_tree.specs.PlainProgram.{PlainProgram}
use Rattle.py_tree.specs.ClassRules.{PlainTable, table_of, tables_of}
use Rattle.py_tree.proofs.ClassRuleLaws.{few_classes}
use Rattle.sf_value.specs.Keys.{key_of}
use Rattle.sf_value.specs.declared.value.Value.{Value}
use Rattle.sf_value.specs.declared.value.Ref.{Ref}
use Rattle.program_meaning.specs.ClassTables.{Source}
use Rattle.program_meaning.specs.World.{State}
use Rattle.program_meaning.specs.Fits.{HasTable}
use Rattle.program_meaning.specs.NothingGoesWrong.{IsKnownAccepted}
use Rattle.block_code.specs.declared.event.Frame.{Frame}
use Rattle.block_code.specs.declared.event.Event.{Event}
use Rattle.block_code.specs.declared.event.EventKind.{EventKind}
use Rattle.block_code.specs.declared.event.EventKind.TheVariants as kind
use Rattle.block_code.specs.PlainBlocks.{PlainBlock}
use Rattle.block_code.specs.GraphFits.{GraphFits}
use Rattle.block_code.specs.EventsFit.{FrameFits, FramesFit, HasFrame, KindFits, EventFits}
use Rattle.block_runs.specs.EventStep.{Lasts, lasts, Step, StepsTo, target_of}
use Rattle.block_runs.specs.StepFits.{HeldFits, IsThere, IsReady, StepsWell}
use Rattle.block_runs.specs.StepFalls.{FewWait}
use Rattle.block_runs.proofs.FallLaws.{steps_fall}
use Rattle.block_runs.proofs.Frames.{no_last, LastFits, lasts_fit}
use Rattle.block_runs.proofs.WellSteps.{events_step_well}
use Rattle.request_events.specs.RequestEvents.{first_event, with_left, behind, Handles}
use Rattle.transaction_steps.specs.Transactions.{Transaction, handled, is_done}
use Rattle.transaction_steps.specs.GoingOn.{IsThereIn, FramesThere, TransactionFits, GoesOn, TransactionsGoOn, TransactionsBegin, TargetsAreOfFewClasses}
use Rattle.transaction_steps.proofs.WhatFits.{held_fits, left_fits, first_fits, first_waits_for_none, first_is_light, handled_so}
use Rattle.transaction_steps.proofs.FramesLeft.{each_more, last_of_all, Leaves, step_leaves, stays_there, is_left}

-- Where they begin

pub transactions_begin : TransactionsBegin
transactions_begin names program graph snapshot state tx asked fit =
    let none : (first : Event) → first.frames ≡ [] → FewWait first × FramesThere snapshot first.frames = λ first is. (subst (λ (fs : List Frame). length fs ≤ 63) (sym is) (omega arith), subst (FramesThere snapshot) (sym is) tt) in
    let no_frames = none (first_event (record { program = program; names = names }) tx asked) (first_waits_for_none names program graph tx asked fit) in
    (record { state = state; event = first_fits names program graph tx asked fit; few = no_frames.0; there = no_frames.1 }, first_is_light names program graph tx asked fit)

-- Targets

-- an event that isn't over has a target; a frame waits at one that is there
record HasTarget (s : State) (k : EventKind) (frames : List Frame) : Type 0 where
  target : Ref
  is : target_of k (lasts frames) ≡ Some target
  there : IsThere k (map.get s (key_of target))

frame_is_there : (s : State) (o : Option (List Value)) (k : EventKind) → is_some o ≡ true → IsThere k o
frame_is_there s None k there = absurd (true≢false (sym there))
frame_is_there s (Some fields) (kind.Enter at method args) there = tt
frame_is_there s (Some fields) (kind.Make at args) there = tt
frame_is_there s (Some fields) (kind.Resume o) there = tt
frame_is_there s (Some fields) (kind.Done o) there = tt

has_target : (tables : List PlainTable) (graph : List (List PlainBlock)) (s : State) (k : EventKind) (frames : List Frame) → KindFits tables graph k frames → FramesThere s frames → is_done k ≡ false → HasTarget s k frames
has_target tables graph s (kind.Enter at method args) frames fit there runs = record { target = at; is = refl; there = tt }
has_target tables graph s (kind.Make at args) frames fit there runs = record { target = at; is = refl; there = tt }
has_target tables graph s (kind.Done o) frames fit there runs = absurd (true≢false runs)
has_target tables graph s (kind.Resume o) frames fit there runs = by (lasts frames) refl
  where
    no_frame : (fs : List Frame) → fs ≡ [] → HasFrame tables graph fs → ⊥
    no_frame [] is has = has
    no_frame (f ∷ fs) is has = cc

    by : (l : Option Lasts) → lasts frames ≡ l → HasTarget s (kind.Resume o) frames
    by None none = absurd (no_frame frames (no_last tables graph frames none) fit.0)
    by (Some l) some = record {
      target = l.last.at;
      is = ap (target_of (kind.Resume o)) some;
      there = frame_is_there s (map.get s (key_of l.last.at)) (kind.Resume o) (last_of_all (IsThereIn s) frames l some there).1;
    }

-- Steps

module _ (names : List (List ℕ)) (program : PlainProgram) (accepted : IsKnownAccepted names program) (graph : List (List PlainBlock)) (fits : GraphFits names program graph) where
  abbrev src : Source
  src = record { program = program; names = names }

  abbrev tables : List PlainTable
  tables = tables_of names program

  -- what is behind a step fits
  behind_fits : (t : Transaction) → TransactionFits tables graph t → (target : Ref) → target_of t.next.kind (lasts t.next.frames) ≡ Some target → (step : Step) → StepsTo src tables graph t.next (map.get t.world.state (key_of target)) step
      → HeldFits tables target.class step.held → EventFits tables graph step.next → TransactionFits tables graph (record { world = behind t.world (key_of target) step; next = step.next })
  behind_fits t fit target is step by held next =
      let after : State = with_left t.world.state (key_of target) step.held in
      let stay : FramesThere after t.next.frames = each_more (IsThereIn t.world.state) (IsThereIn after) t.next.frames (λ f there. stays_there t.world.state (key_of target) step.held (key_of f.at) there) fit.there in
      let leaves : Leaves (IsThereIn after) target step = step_leaves (IsThereIn after) src tables graph by.fuel t.next.kind t.next.tx t.next.frames t.next.steps _ step target is stay by.by in
      record {
        state = left_fits names program t.world.state (key_of target) step.held fit.state held;
        event = next;
        few = (steps_fall src tables graph t.next _ step fit.few by).1;
        there = leaves.frames (λ there f at. subst (λ (r : Ref). is_some (map.get after (key_of r)) ≡ true) (sym at) (is_left t.world.state (key_of target) step.held there));
      }

  goes_on : (t : Transaction) → TransactionFits tables graph t → HasTarget t.world.state t.next.kind t.next.frames → GoesOn src tables graph t
  goes_on t fit has =
      let held : Option (List Value) = map.get t.world.state (key_of has.target) in
      let ready : IsReady tables graph t.next held = record { fits = fit.event; target = has.target; is_target = has.is; held_fits = held_fits names program t.world.state has.target fit.state; there = has.there } in
      let well : StepsWell src tables graph t.next held has.target.class = events_step_well names program accepted graph fits t.next held ready in
      let after : Transaction = record { world = behind t.world (key_of has.target) well.step; next = well.step.next } in
      let handles : Handles src tables graph t.world t.next after.world after.next = record { target = has.target; is_target = has.is; step = well.step; by = well.by; is_after = refl; is_next = refl } in
      let is : handled src tables graph t ≡ after = handled_so names program accepted graph fits t.world t.next after.world after.next fit.event handles in
      let leaves : Leaves (λ f. Unit {0}) has.target well.step = step_leaves (λ f. Unit {0}) src tables graph well.by.fuel t.next.kind t.next.tx t.next.frames t.next.steps held well.step has.target has.is (each_more (IsThereIn t.world.state) (λ f. Unit {0}) t.next.frames (λ f there. tt) fit.there) well.by.by in
      record {
        target = has.target;
        is_target = has.is;
        ready = ready;
        step = well.step;
        by = well.by;
        is = is;
        kept = subst (TransactionFits tables graph) (sym is) (behind_fits t fit has.target has.is well.step well.by well.held_fits well.next_fits);
        lighter = (steps_fall src tables graph t.next held well.step fit.few well.by).0;
        written_is_there = leaves.written;
      }

pub transactions_go_on : TransactionsGoOn
transactions_go_on names program accepted graph fits t fit runs =
    goes_on names program accepted graph fits t fit (has_target (tables_of names program) graph t.world.state t.next.kind t.next.frames fit.event.kind fit.there runs)

-- Classes

module _ (names : List (List ℕ)) (program : PlainProgram) (accepted : IsKnownAccepted names program) (graph : List (List PlainBlock)) where
  abbrev the_tables : List PlainTable
  the_tables = tables_of names program

  is_few : (class : ℕ) (t : PlainTable) → HasTable the_tables class t → class < 256
  is_few class t has =
      let within : class < length the_tables = slice_get_within the_tables class t has in
      let as_many : length the_tables ≡ length program = length-map program (table_of names) in
      let few : length program ≤ 256 = few_classes names program accepted.rules.classes in
      omega (arith, within, as_many, few)

  is_few_of_frame : (f : Frame) → FrameFits the_tables graph f → f.at.class < 256
  is_few_of_frame f fit = by (slice_get the_tables f.at.class) refl fit.has_method
    where
      by : (o : Option PlainTable) → slice_get the_tables f.at.class ≡ o → is_some (option_and_then (λ (t : PlainTable). slice_get t.methods f.method) o) ≡ true → f.at.class < 256
      by None none has = absurd (true≢false (sym has))
      by (Some t) some has = is_few f.at.class t some

  is_few_of_event : (k : EventKind) (frames : List Frame) → FramesFit the_tables graph frames → KindFits the_tables graph k frames → (target : Ref) → target_of k (lasts frames) ≡ Some target → target.class < 256
  is_few_of_event (kind.Enter at method args) frames waits fit target is = subst (λ (r : Ref). r.class < 256) (same_Some _ _ is) (is_few at.class fit.0.table fit.0.has_table)
  is_few_of_event (kind.Make at args) frames waits fit target is = subst (λ (r : Ref). r.class < 256) (same_Some _ _ is) (is_few at.class fit.0.table fit.0.has_table)
  is_few_of_event (kind.Done o) frames waits fit target is = absurd (none-some target is)
  is_few_of_event (kind.Resume o) frames waits fit target is = by (lasts frames) refl is
    where
      by : (l : Option Lasts) → lasts frames ≡ l → target_of (kind.Resume o) l ≡ Some target → target.class < 256
      by None none is = absurd (none-some target is)
      by (Some l) some is = let last : LastFits the_tables graph frames l = lasts_fit the_tables graph frames l some waits in subst (λ (r : Ref). r.class < 256) (same_Some _ _ is) (is_few_of_frame l.last last.last)

pub targets_are_of_few_classes : TargetsAreOfFewClasses
targets_are_of_few_classes names program accepted graph e fit target is = is_few_of_event names program accepted graph e.kind e.frames fit.frames fit.kind target is
