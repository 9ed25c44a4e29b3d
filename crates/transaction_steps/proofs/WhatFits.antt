-- What fits along the steps of a transaction: what is left of the record of an entity, the state behind a step, and the next event.
use Rattle.std.proofs.Common.{◌≡◌, ◌≤◌, ◌∙◌, ℕ, arith, Bool, true, false, Option, Some, None, List, [], if◌then◌else◌, refl, sym, ap, subst}
use Rattle.std.specs.FinMap as map
use Rattle.std.proofs.lemmas.Option.{none-some}
use Rattle.py_tree.specs.PlainProgram.{PlainProgram}
use Rattle.py_tree.specs.ClassRules.{PlainTable, tables_of}
use Rattle.sf_value.specs.Keys.{Key, key_of}
use Rattle.sf_value.specs.declared.value.Value.{Value}
use Rattle.sf_value.specs.declared.value.Ref.{Ref}
use Rattle.sf_value.specs.declared.Act.{Act}
use Rattle.sf_value.specs.declared.Act.TheVariants as act
use Rattle.sf_value.specs.declared.Outcome.TheVariants as outcome
use Rattle.program_meaning.specs.ClassTables.{Source}
use Rattle.program_meaning.specs.World.{State, World, size_limit}
use Rattle.program_meaning.specs.Fits.{StateFits, ActFits}
use Rattle.program_meaning.specs.RequestRun.{steps_at_first, is_too_heavy}
use Rattle.program_meaning.specs.NothingGoesWrong.{IsKnownAccepted}
use Rattle.program_meaning.proofs.CallsFit.{insert_fits}
use Rattle.block_code.specs.declared.event.Frame.{Frame}
use Rattle.block_code.specs.declared.event.Event.{Event}
use Rattle.block_code.specs.declared.event.EventKind.{EventKind}
use Rattle.block_code.specs.declared.event.EventKind.TheVariants as kind
use Rattle.block_code.specs.PlainBlocks.{PlainBlock}
use Rattle.block_code.specs.GraphFits.{GraphFits}
use Rattle.block_code.specs.EventsFit.{FramesFit, EventFits}
use Rattle.block_runs.specs.EventStep.{Lasts, lasts, Step, event, target_of, step_of, resume}
use Rattle.block_runs.specs.StepFits.{HeldFits, IsThere, IsReady}
use Rattle.block_runs.specs.StepFalls.{weight}
use Rattle.request_events.specs.RequestEvents.{steps_behind_first, asked_for, first_event, with_left, Handles}
use Rattle.request_events.proofs.Fitting.{step_fits}
use Rattle.transaction_steps.specs.Transactions.{Transaction, moved, handled_at, handled, is_done}
use Rattle.transaction_steps.proofs.EnoughBlocks.{enough_blocks}

pub not_done : (k : EventKind) (l : Option Lasts) (target : Ref) → target_of k l ≡ Some target → is_done k ≡ false
not_done (kind.Enter at method args) l target is = refl
not_done (kind.Make at args) l target is = refl
not_done (kind.Resume o) l target is = refl
not_done (kind.Done o) l target is = absurd (none-some target is)

module _ (names : List (List ℕ)) (program : PlainProgram) where
  abbrev src : Source
  src = record { program = program; names = names }

  abbrev tables : List PlainTable
  tables = tables_of names program

  pub held_fits : (s : State) (target : Ref) → StateFits tables s → HeldFits tables target.class (map.get s (key_of target))
  held_fits s target state = by (map.get s (key_of target)) refl
    where
      by : (o : Option (List Value)) → map.get s (key_of target) ≡ o → HeldFits tables target.class o
      by None none = tt
      by (Some fields) there = state.each (key_of target) fields there

  pub left_fits : (s : State) (at : Key) (held : Option (List Value)) → StateFits tables s → HeldFits tables at.0 held → StateFits tables (with_left s at held)
  left_fits s at None state fit = state
  left_fits s at (Some fields) state fit = insert_fits tables s at fields state fit

  module _ (graph : List (List PlainBlock)) where
    -- a frame goes on only where there is a record
    pub is_there : (k : EventKind) (fuel tx : ℕ) (frames : List Frame) (n : ℕ) (held : Option (List Value)) (s : Step) → step_of src tables graph fuel k tx frames n held ≡ Some s → IsThere k held
    is_there (kind.Enter at method args) fuel tx frames n held s h = tt
    is_there (kind.Make at args) fuel tx frames n held s h = tt
    is_there (kind.Resume o) fuel tx frames n (Some fields) s h = tt
    is_there (kind.Resume o) fuel tx frames n None s h = by (lasts frames) h
      where
        by : (l : Option Lasts) → resume src tables graph fuel o tx l n None ≡ Some s → ⊥
        by None h = none-some s h
        by (Some l) h = none-some s h
    is_there (kind.Done o) fuel tx frames n held s h = tt

    -- the first event of a request
    abbrev Begins : Event → Type 0
    Begins e = EventFits tables graph e × (e.frames ≡ []) × (weight e ≤ 6500000)

    begins : (tx : ℕ) (asked : Act) → ActFits tables asked → Begins (first_event src tx asked)
    unfolding FramesFit
    begins tx asked fit = by (is_too_heavy asked) asked fit
      where
        by : (heavy : Bool) (asked : Act) → ActFits tables asked → Begins (if heavy then event tx steps_at_first [] (kind.Done (outcome.Failed size_limit)) else event tx steps_behind_first [] (asked_for src asked))
        by true asked fit = (record { frames = tt; kind = tt }, refl, omega arith)
        by false (act.Call class key method args) fit = (record { frames = tt; kind = (fit, tt) }, refl, omega arith)
        by false (act.New class args) fit = (record { frames = tt; kind = (fit, tt) }, refl, omega arith)

    pub first_fits : (tx : ℕ) (asked : Act) → ActFits tables asked → EventFits tables graph (first_event src tx asked)
    first_fits tx asked fit = (begins tx asked fit).0

    pub first_waits_for_none : (tx : ℕ) (asked : Act) → ActFits tables asked → (first_event src tx asked).frames ≡ []
    first_waits_for_none tx asked fit = (begins tx asked fit).1

    pub first_is_light : (tx : ℕ) (asked : Act) → ActFits tables asked → weight (first_event src tx asked) ≤ 6500000
    first_is_light tx asked fit = (begins tx asked fit).2

  module _ (accepted : IsKnownAccepted names program) (graph : List (List PlainBlock)) (fits : GraphFits names program graph) where
    -- an event that fits leaves a state and an event that fit
    pub handled_fits : (w : World) (e : Event) (mid : World) (next : Event) → StateFits tables w.state → EventFits tables graph e → Handles src tables graph w e mid next → StateFits tables mid.state × EventFits tables graph next
    handled_fits w e mid next state fit h =
        let ready : IsReady tables graph e (map.get w.state (key_of h.target)) = record { fits = fit; target = h.target; is_target = h.is_target; held_fits = held_fits w.state h.target state; there = is_there graph e.kind h.by.fuel e.tx e.frames e.steps _ h.step h.by.by } in
        let well : HeldFits tables h.target.class h.step.held × EventFits tables graph h.step.next = step_fits names program accepted graph fits e (map.get w.state (key_of h.target)) ready h.step h.by in
        (subst (λ (v : World). StateFits tables v.state) (sym h.is_after) (left_fits w.state (key_of h.target) h.step.held state well.0), subst (EventFits tables graph) (sym h.is_next) well.1)

    -- an event is handled with enough blocks
    pub handled_so : (w : World) (e : Event) (mid : World) (next : Event) → EventFits tables graph e → Handles src tables graph w e mid next → handled src tables graph (record { world = w; next = e }) ≡ record { world = mid; next = next }
    handled_so w e mid next fit h =
        let start : Transaction = record { world = w; next = e } in
        let behind_it : moved start (key_of h.target) (Some h.step) ≡ record { world = mid; next = next } = λ i. record { world = sym h.is_after i; next = sym h.is_next i } in
        ap (handled_at src tables graph start) h.is_target
        ∙ ap (moved start (key_of h.target)) (enough_blocks names program accepted graph fits e fit (map.get w.state (key_of h.target)) h.step h.by)
        ∙ behind_it
