-- The events of a request on a cut graph are those on the whole one, but for variables that no frame of the cut graph keeps; so it means
-- what the whole graph means.
use Rattle.std.proofs.Common.{if◌then◌else◌, ◌≡◌, ◌∙◌, ◌-◌, arith, nat_lt, map as over, ℕ, Bool, true, false, not, Option, Some, None, List, [], ◌∷◌, ◌++◌, length, refl, sym, ap, subst, true≢false}
use Rattle.std.specs.Prelude.{◌==◌, slice_get, filter, is_some, option_and_then}
use Rattle.std.specs.List.{flat_map}
use Rattle.std.specs.FinMap as map
use Rattle.std.proofs.lemmas.Option.{same_Some, none-some}
use Rattle.py_tree.specs.PlainProgram.{PlainMethod, PlainProgram}
use Rattle.py_tree.specs.ClassRules.{PlainSig, PlainTable, params_of, tables_of}
use Rattle.py_tree.specs.Flow.{in_method, sig_at}
use Rattle.call_graph.specs.SuspendingCode.{leaving}
use Rattle.sf_value.specs.Keys.{Key, key_of}
use Rattle.sf_value.specs.declared.Failure.{Failure}
use Rattle.sf_value.specs.declared.Act.{Act}
use Rattle.sf_value.specs.declared.Act.TheVariants as act
use Rattle.sf_value.specs.declared.value.Ref.{Ref}
use Rattle.sf_value.specs.declared.value.Value.{Value}
use Rattle.sf_value.specs.declared.value.Value.TheVariants as value
use Rattle.sf_value.specs.declared.Outcome.{Outcome}
use Rattle.sf_value.specs.declared.Outcome.TheVariants as outcome
use Rattle.program_meaning.specs.declared.vars.Var.{Var}
use Rattle.program_meaning.specs.ClassTables.{Source, methods_of}
use Rattle.program_meaning.specs.World.{State, World, size_limit, Gives, Got, Fell, assigned, no_entity, already_exists}
use Rattle.program_meaning.specs.Evaluation.{Site}
use Rattle.program_meaning.specs.Calls.{Held, bound, made_record, on_record}
use Rattle.program_meaning.specs.Fits.{StateFits, ActFits}
use Rattle.program_meaning.specs.RequestRun.{at_first, steps_at_first, is_too_heavy}
use Rattle.program_meaning.specs.NothingGoesWrong.{IsKnownAccepted}
use Rattle.program_meaning.proofs.CallsFit.{insert_fits}
use Rattle.program_meaning.proofs.TableFacts.{then_found}
use Rattle.program_meaning.proofs.NamesApart.{IsMethod, method_is}
use Rattle.block_code.specs.declared.event.Frame.{Frame}
use Rattle.block_code.specs.declared.event.Event.{Event}
use Rattle.block_code.specs.declared.event.EventKind.{EventKind}
use Rattle.block_code.specs.declared.event.EventKind.TheVariants as kind
use Rattle.block_code.specs.PlainVars.{PlainVar}
use Rattle.block_code.specs.PlainBlocks.{PlainCatch, PlainBlock}
use Rattle.block_code.specs.Places.{blocks_of}
use Rattle.block_code.specs.GraphFits.{MethodFits, GraphFits, var_of}
use Rattle.block_code.specs.EventsFit.{Awaits, awaited, catch_of, params_if_there, kept_params, FrameFits, FramesFit, KindFits, EventFits}
use Rattle.block_runs.specs.BlockRuns.{run_blocks}
use Rattle.block_runs.specs.EventStep.{Part, waiting, names_it, behind_it, up_to, Lasts, one_before, lasts, resumed, event, Step, target_of, block_of, caught, thrown, finished, from, created, enter, make, go_on, awaited_by, catch, caught_by, resume, step_of, StepsTo}
use Rattle.block_runs.specs.StepFits.{HeldFits, IsThere, IsReady}
use Rattle.block_runs.proofs.Entries.{among_first, among_second, among_flat}
use Rattle.block_runs.proofs.Parts.{catch_found}
use Rattle.block_runs.proofs.Frames.{lasts_fit}
use Rattle.request_events.specs.RequestEvents.{steps_behind_first, asked_for, first_event, with_left, behind, Handles, Comes, ended_as}
use Rattle.request_events.specs.GraphMeans.{EndsAsRun, GraphMeans}
use Rattle.request_events.proofs.Fitting.{step_fits}
use Rattle.request_events.proofs.Agreeing.{Same}
use Rattle.live_laws.specs.Cut.{Stays, IsCut, AreCut}
use Rattle.live_laws.proofs.SameRuns.{CutFrom, cut_came, runs_same}
use Rattle.live_laws.proofs.CutGraphs.{method_cut}
use Rattle.live_laws.proofs.AlikeFrames.{frame_keeps, names_same, assigned_same, none_runs}
use Rattle.live_laws.proofs.AlikeCalls.{SameAt, PartAlike, no_part, gave_alike, failed_alike, asks_alike, wants_alike, runs_alike}

module _ (names : List (List ℕ)) (program : PlainProgram) (accepted : IsKnownAccepted names program) (before after : List (List PlainBlock)) (cut : AreCut before after) (fits : GraphFits names program after) where
  abbrev src : Source
  src = record { program = program; names = names }

  abbrev tables : List PlainTable
  tables = tables_of names program

  abbrev whole : ℕ → ℕ → List PlainBlock
  whole class method = blocks_of tables before class method

  abbrev blocks : ℕ → ℕ → List PlainBlock
  blocks class method = blocks_of tables after class method

  is_cut : (class method : ℕ) → IsCut (whole class method) (blocks class method)
  is_cut class method = method_cut tables before after cut class method

  -- Frames and events

  data FrameAlike : Frame → Frame → Type 0 where
    one_frame : {at : Ref} {method number : ℕ} {us vs : List Var} → SameAt (blocks_of tables after at.class method) number us vs → FrameAlike (record { at = at; method = method; block = number; vars = us }) (record { at = at; method = method; block = number; vars = vs })

  data FramesAlike : List Frame → List Frame → Type 0 where
    no_frame : FramesAlike [] []
    more_frames : {f g : Frame} {fs gs : List Frame} → FrameAlike f g → FramesAlike fs gs → FramesAlike (f ∷ fs) (g ∷ gs)

  data EventAlike : Event → Event → Type 0 where
    one_event : {tx n : ℕ} {fs gs : List Frame} {k : EventKind} → FramesAlike fs gs → EventAlike (event tx n fs k) (event tx n gs k)

  data StepAlike : Step → Step → Type 0 where
    one_step : {held : Option (List Value)} {wrote : Bool} {e d : Event} → EventAlike e d → StepAlike (record { held = held; wrote = wrote; next = e }) (record { held = held; wrote = wrote; next = d })

  as_long : {fs gs : List Frame} → FramesAlike fs gs → length fs ≡ length gs
  as_long no_frame = refl
  as_long (more_frames {fs = fs} {gs = gs} f a) = let n : length fs ≡ length gs = as_long a in omega (arith, n)

  resumed_same : {fs gs : List Frame} (o : Outcome) → FramesAlike fs gs → resumed fs o ≡ resumed gs o
  resumed_same o no_frame = refl
  resumed_same o (more_frames f a) = refl

  resumed_alike : (tx : ℕ) (fs gs : List Frame) (o : Outcome) (n : ℕ) → FramesAlike fs gs → EventAlike (event tx n fs (resumed fs o)) (event tx n gs (resumed gs o))
  resumed_alike tx fs gs o n a = subst (λ k. EventAlike (event tx n fs (resumed fs o)) (event tx n gs k)) (resumed_same o a) (one_event a)

  behind_alike : {f g : Frame} {fs gs : List Frame} → FrameAlike f g → FramesAlike fs gs → (b : Bool) → FramesAlike (behind_it f fs b) (behind_it g gs b)
  behind_alike a no_frame true = more_frames a no_frame
  behind_alike a no_frame false = no_frame
  behind_alike a (more_frames f rest) b = more_frames a (more_frames f rest)

  frame_names : {f g : Frame} (e : Failure) → FrameAlike f g → names_it (block_of src tables before f) e ≡ names_it (block_of src tables after g) e
  frame_names e (one_frame {at = at} {method = method} {number = number} same) = names_same (whole at.class method) (blocks at.class method) (is_cut at.class method) number e

  caught_alike : (e : Failure) {fs gs : List Frame} → FramesAlike fs gs → FramesAlike (caught src tables before fs e) (caught src tables after gs e)
  unfolding up_to
  caught_alike e no_frame = no_frame
  caught_alike e (more_frames {f = f} {g = g} {fs = fs} {gs = gs} a rest) =
      subst (λ b. FramesAlike (behind_it f (caught src tables before fs e) (names_it (block_of src tables before f) e)) (behind_it g (caught src tables after gs e) b)) (frame_names e a)
      (behind_alike a (caught_alike e rest) (names_it (block_of src tables before f) e))

  thrown_alike : (tx : ℕ) (fs gs : List Frame) (e : Failure) (n : ℕ) → FramesAlike fs gs → EventAlike (thrown src tables before tx fs e n) (thrown src tables after tx gs e n)
  thrown_alike tx fs gs e n a = resumed_alike tx (caught src tables before fs e) (caught src tables after gs e) (outcome.Failed e) n (caught_alike e a)

  pushed_alike : {f g : Frame} {fs gs : List Frame} → FramesAlike fs gs → FrameAlike f g → FramesAlike (fs ++ f ∷ []) (gs ++ g ∷ [])
  pushed_alike no_frame last = more_frames last no_frame
  pushed_alike (more_frames f a) last = more_frames f (pushed_alike a last)

  data LastsAlike : Option Lasts → Option Lasts → Type 0 where
    no_last : LastsAlike None None
    one_last : {fs gs : List Frame} {f g : Frame} → FramesAlike fs gs → FrameAlike f g → LastsAlike (Some (record { before = fs; last = f })) (Some (record { before = gs; last = g }))

  before_alike : {f g : Frame} → FrameAlike f g → {o p : Option Lasts} → LastsAlike o p → LastsAlike (one_before f o) (one_before g p)
  before_alike a no_last = one_last no_frame a
  before_alike a (one_last fs last) = one_last (more_frames a fs) last

  lasts_alike : {fs gs : List Frame} → FramesAlike fs gs → LastsAlike (lasts fs) (lasts gs)
  unfolding lasts
  lasts_alike no_frame = no_last
  lasts_alike (more_frames f a) = before_alike f (lasts_alike a)

  -- Steps

  record StepToo (s : Step) (o : Option Step) : Type 0 where
    step : Step
    is : o ≡ Some step
    alike : StepAlike s step

  too : (t u s : Step) → StepAlike t u → Some t ≡ Some s → StepToo s (Some u)
  too t u s a e = record { step = u; is = refl; alike = subst (λ s. StepAlike s u) (same_Some t s e) a }

  finished_alike : (at : Ref) (method tx : ℕ) (fs gs : List Frame) (o p : Option Part) → PartAlike (blocks at.class method) o p → FramesAlike fs gs → (s : Step) → finished src tables before at method tx fs o ≡ Some s → StepToo s (finished src tables after at method tx gs p)
  finished_alike at method tx fs gs _ _ no_part a s e = absurd (none-some s e)
  finished_alike at method tx fs gs _ _ (gave_alike {v = v} {h = h} {n = n}) a s e = too _ _ s (one_step (resumed_alike tx fs gs (outcome.Value v) n a)) e
  finished_alike at method tx fs gs _ _ (failed_alike {f = f} {h = h} {n = n}) a s e = too _ _ s (one_step (thrown_alike tx fs gs f n a)) e
  finished_alike at method tx fs gs _ _ (asks_alike {number = number} {us = us} {vs = vs} same) a s e =
      too _ _ s (one_step (one_event (pushed_alike a (one_frame (frame_keeps (whole at.class method) (blocks at.class method) (is_cut at.class method) number us vs same))))) e
  finished_alike at method tx fs gs _ _ (wants_alike {number = number} {us = us} {vs = vs} same) a s e =
      too _ _ s (one_step (one_event (pushed_alike a (one_frame (frame_keeps (whole at.class method) (blocks at.class method) (is_cut at.class method) number us vs same))))) e

  abbrev HasMethod : ℕ → ℕ → Type 0
  HasMethod class method = (m : PlainMethod) × MethodFits names program (leaving names program fits.marks class) class method m (blocks class method)

  has_method : (class method : ℕ) (sig : PlainSig) → sig_at tables class method ≡ Some sig → HasMethod class method
  has_method class method sig has =
      let t = then_found (λ (t : PlainTable). slice_get t.methods method) (slice_get tables class) sig has in
      let m : IsMethod names program accepted.rules.classes accepted.rules.flow class method sig = method_is names program accepted.rules.classes accepted.rules.flow class method t.0 sig t.1 t.2 in
      (m.is, fits.methods class method m.is m.at)

  from_alike : (fuel : ℕ) (at : Ref) (method tx : ℕ) (fs gs : List Frame) (number : ℕ) (us vs : List Var) (fields : List Value) (n : ℕ) → HasMethod at.class method → FramesAlike fs gs → ((b : PlainBlock) → slice_get (blocks at.class method) number ≡ Some b → Same b.params us vs)
      → (s : Step) → from src tables before fuel at method tx fs number us fields n ≡ Some s → StepToo s (from src tables after fuel at method tx gs number vs fields n)
  from_alike fuel at method tx fs gs number us vs fields n m a same s e = finished_alike at method tx fs gs _ _ parts a s e
    where
      h : Held
      h = record { fields = fields; wrote = false }

      on : ℕ → Site Held
      on k = on_record src (at.class, at.key) (63 - k)

      runs : ℕ → List PlainBlock → List Var → Option Part
      runs k bs vars = run_blocks (on k) (waiting (nat_lt k 63)) bs fuel number vars h n

      cut_runs : (o : Option PlainBlock) → slice_get (blocks at.class method) number ≡ o → PartAlike (blocks at.class method) (runs (length fs) (blocks at.class method) us) (runs (length fs) (blocks at.class method) vs)
      cut_runs None none =
          subst (λ o. PartAlike (blocks at.class method) o (runs (length fs) (blocks at.class method) vs)) (sym (none_runs (on (length fs)) (waiting (nat_lt (length fs) 63)) (blocks at.class method) number none fuel us h n))
          (subst (PartAlike (blocks at.class method) None) (sym (none_runs (on (length fs)) (waiting (nat_lt (length fs) 63)) (blocks at.class method) number none fuel vs h n)) no_part)
      cut_runs (Some b) is =
          runs_alike (on (length fs)) (nat_lt (length fs) 63) (in_method tables at.class method) (leaving names program fits.marks at.class) (over var_of m.1.locals ++ m.1.temporaries) (blocks at.class method) m.1.each fuel number b us vs h n is (same b is)

      parts : PartAlike (blocks at.class method) (runs (length fs) (whole at.class method) us) (runs (length gs) (blocks at.class method) vs)
      parts =
          subst (λ k. PartAlike (blocks at.class method) (runs (length fs) (whole at.class method) us) (runs k (blocks at.class method) vs)) (as_long a)
          (subst (λ o. PartAlike (blocks at.class method) o (runs (length fs) (blocks at.class method) vs))
          (ap (λ run. run number us h n) (runs_same (on (length fs)) (waiting (nat_lt (length fs) 63)) (whole at.class method) (blocks at.class method) (is_cut at.class method) fuel)) (cut_runs (slice_get (blocks at.class method) number) refl))

  enter_alike : (fuel : ℕ) (at : Ref) (method : ℕ) (args : List Value) (tx : ℕ) (fs gs : List Frame) (n : ℕ) (held : Option (List Value)) → HasMethod at.class method → FramesAlike fs gs → (s : Step) → enter src tables before fuel at method args tx fs n held ≡ Some s
      → StepToo s (enter src tables after fuel at method args tx gs n held)
  enter_alike fuel at method args tx fs gs n None m a s e = too _ _ s (one_step (thrown_alike tx fs gs no_entity n a)) e
  enter_alike fuel at method args tx fs gs n (Some fields) m a s e =
      let vars : List Var = bound (params_of (slice_get (methods_of src at.class) method)) args in
      from_alike fuel at method tx fs gs 0 vars vars fields n m a (λ b is k p p_is. refl) s e

  make_alike : (at : Ref) (args : List Value) (tx : ℕ) (fs gs : List Frame) (n : ℕ) (held : Option (List Value)) → FramesAlike fs gs → (s : Step) → make src tables before at args tx fs n held ≡ Some s → StepToo s (make src tables after at args tx gs n held)
  make_alike at args tx fs gs n (Some fields) a s e = too _ _ s (one_step (thrown_alike tx fs gs already_exists n a)) e
  make_alike at args tx fs gs n None a s e = by (made_record src (at.class, at.key) args n) e
    where
      by : (g : Gives (List Value) Value) → Some (created src tables before at tx fs g) ≡ Some s → StepToo s (Some (created src tables after at tx gs g))
      by (Got v fields n) e = too _ _ s (one_step (resumed_alike tx fs gs (outcome.Value (value.Entity at)) n a)) e
      by (Fell f fields n) e = too _ _ s (one_step (thrown_alike tx fs gs f n a)) e

  some_of : {A : Type 0} (o : Option A) → is_some o ≡ true → (x : A) × (o ≡ Some x)
  some_of None h = absurd (true≢false (sym h))
  some_of (Some x) h = (x, refl)

  -- a frame goes on
  module _ (fuel tx n : ℕ) (fields : List Value) (at : Ref) (method number : ℕ) (us vs : List Var) (same : SameAt (blocks_of tables after at.class method) number us vs) (fs gs : List Frame) (a : FramesAlike fs gs)
      (fit : FrameFits tables after (record { at = at; method = method; block = number; vars = vs })) where
    abbrev f : Frame
    f = record { at = at; method = method; block = number; vars = us }

    abbrev g : Frame
    g = record { at = at; method = method; block = number; vars = vs }

    abbrev f_last : Lasts
    f_last = record { before = fs; last = f }

    abbrev g_last : Lasts
    g_last = record { before = gs; last = g }

    m : HasMethod at.class method
    m = let sig = some_of (sig_at tables at.class method) fit.has_method in has_method at.class method sig.0 sig.1

    kept_same : Same (kept_params (blocks at.class method) fit.waits fit.for) us vs
    kept_same = same fit.waits fit.for fit.is_block fit.awaits

    -- where it waits in the whole graph
    waited : CutFrom (Stays (whole at.class method) number) (slice_get (whole at.class method) number) fit.waits
    waited = cut_came (Stays (whole at.class method) number) (slice_get (whole at.class method) number) (slice_get (blocks at.class method) number) ((is_cut at.class method).at number) fit.waits fit.is_block

    abbrev behind_call : List PlainVar
    behind_call = filter (λ (p : PlainVar). not (p.name == fit.for.into)) (params_if_there (slice_get (blocks at.class method) fit.for.after))

    abbrev behind_catches : List PlainVar
    behind_catches = flat_map (λ (c : PlainCatch). params_if_there (slice_get (blocks at.class method) c.to)) fit.waits.catches

    value_alike : (v : Value) (s : Step) → go_on src tables before fuel (awaited_by src tables before (block_of src tables before f)) v tx f_last fields n ≡ Some s
        → StepToo s (go_on src tables after fuel (awaited_by src tables after (block_of src tables after g)) v tx g_last fields n)
    value_alike v s e =
        let w : Awaits = fit.for in
        let whole_waits : awaited_by src tables before (block_of src tables before f) ≡ Some w = ap (awaited_by src tables before) waited.is ∙ ap (λ (b : PlainBlock). awaited b.end) waited.same ∙ fit.awaits in
        let cut_waits : awaited_by src tables after (block_of src tables after g) ≡ Some w = ap (awaited_by src tables after) fit.is_block ∙ fit.awaits in
        subst (λ o. StepToo s (go_on src tables after fuel o v tx g_last fields n)) (sym cut_waits)
        (from_alike fuel at method tx fs gs w.after (assigned us w.into v) (assigned vs w.into v) fields n m a
        (λ b is. assigned_same w.into v b.params us vs (subst (λ o. Same (filter (λ (p : PlainVar). not (p.name == w.into)) (params_if_there o)) us vs) is
        (λ k p p_is. let q = among_first behind_call behind_catches k p p_is in kept_same q.0 p q.1)))
        s (sym (ap (λ o. go_on src tables before fuel o v tx f_last fields n) whole_waits) ∙ e))

    failure_alike : (x : Failure) (s : Step) → catch src tables before fuel (caught_by src tables before (block_of src tables before f) x) tx f_last fields n ≡ Some s
        → StepToo s (catch src tables after fuel (caught_by src tables after (block_of src tables after g) x) tx g_last fields n)
    failure_alike x s e = by (catch_of fit.waits.catches x.kind) refl
      where
        whole_catches : caught_by src tables before (block_of src tables before f) x ≡ catch_of fit.waits.catches x.kind
        whole_catches = ap (λ o. caught_by src tables before o x) waited.is ∙ ap (λ (b : PlainBlock). catch_of b.catches x.kind) waited.same

        by : (o : Option ℕ) → catch_of fit.waits.catches x.kind ≡ o → StepToo s (catch src tables after fuel (caught_by src tables after (block_of src tables after g) x) tx g_last fields n)
        by None none = absurd (none-some s (sym (ap (λ o. catch src tables before fuel o tx f_last fields n) (whole_catches ∙ none)) ∙ e))
        by (Some to) some =
            let c : (j : ℕ) × (k : PlainCatch) × (slice_get fit.waits.catches j ≡ Some k) × (k.to ≡ to) = catch_found fit.waits.catches x.kind to some in
            subst (λ o. StepToo s (catch src tables after fuel o tx g_last fields n)) (sym (ap (λ o. caught_by src tables after o x) fit.is_block ∙ some))
            (from_alike fuel at method tx fs gs to us vs fields n m a
            (λ b is k p p_is.
            let here : slice_get (params_if_there (slice_get (blocks at.class method) c.1.to)) k ≡ Some p = ap (λ o. slice_get (params_if_there o) k) (ap (slice_get (blocks at.class method)) c.3 ∙ is) ∙ p_is in
            let q = among_flat (λ (c : PlainCatch). params_if_there (slice_get (blocks at.class method) c.to)) fit.waits.catches c.0 k c.1 p c.2 here in
            let r = among_second behind_call behind_catches q.0 p q.1 in
            kept_same r.0 p r.1)
            s (sym (ap (λ o. catch src tables before fuel o tx f_last fields n) (whole_catches ∙ some)) ∙ e))

  step_alike : (fuel : ℕ) (k : EventKind) (tx : ℕ) (fs gs : List Frame) (n : ℕ) (held : Option (List Value)) → FramesFit tables after gs → KindFits tables after k gs → FramesAlike fs gs → (s : Step) → step_of src tables before fuel k tx fs n held ≡ Some s
      → StepToo s (step_of src tables after fuel k tx gs n held)
  step_alike fuel (kind.Enter at method args) tx fs gs n held fit asks a s e =
      enter_alike fuel at method args tx fs gs n held (has_method at.class method asks.0.sig (ap (λ o. option_and_then (λ (t : PlainTable). slice_get t.methods method) o) asks.0.has_table ∙ asks.0.has_method)) a s e
  step_alike fuel (kind.Make at args) tx fs gs n held fit asks a s e = make_alike at args tx fs gs n held a s e
  step_alike fuel (kind.Done o) tx fs gs n held fit asks a s e = absurd (none-some s e)
  step_alike fuel (kind.Resume o) tx fs gs n held fit asks a s e = by (lasts fs) (lasts gs) refl (lasts_alike a) e
    where
      by : (l q : Option Lasts) → lasts gs ≡ q → LastsAlike l q → resume src tables before fuel o tx l n held ≡ Some s → StepToo s (resume src tables after fuel o tx q n held)
      by _ _ is no_last e = absurd (none-some s e)
      by _ _ is (one_last {fs = fs} {gs = gs'} rest (one_frame {at = at} {method = method} {number = number} {us = us} {vs = vs} same)) e = with_held held o e
        where
          f_last : Lasts
          f_last = record { before = fs; last = record { at = at; method = method; block = number; vars = us } }

          g_last : Lasts
          g_last = record { before = gs'; last = record { at = at; method = method; block = number; vars = vs } }

          last_fits : FrameFits tables after (record { at = at; method = method; block = number; vars = vs })
          last_fits = (lasts_fit tables after gs (record { before = gs'; last = record { at = at; method = method; block = number; vars = vs } }) is fit).last

          with_held : (held : Option (List Value)) (o : Outcome) → resume src tables before fuel o tx (Some f_last) n held ≡ Some s → StepToo s (resume src tables after fuel o tx (Some g_last) n held)
          with_held None o e = absurd (none-some s e)
          with_held (Some fields) (outcome.Value v) e = value_alike fuel tx n fields at method number us vs same fs gs' rest last_fits v s e
          with_held (Some fields) (outcome.Failed x) e = failure_alike fuel tx n fields at method number us vs same fs gs' rest last_fits x s e

  -- Requests

  held_fits : (s : State) (target : Ref) → StateFits tables s → HeldFits tables target.class (map.get s (key_of target))
  held_fits s target state = by (map.get s (key_of target)) refl
    where
      by : (o : Option (List Value)) → map.get s (key_of target) ≡ o → HeldFits tables target.class o
      by None none = tt
      by (Some fields) there = state.each (key_of target) fields there

  left_fits : (s : State) (at : Key) (held : Option (List Value)) → StateFits tables s → HeldFits tables at.0 held → StateFits tables (with_left s at held)
  left_fits s at None state fit = state
  left_fits s at (Some fields) state fit = insert_fits tables s at fields state fit

  is_there : (k : EventKind) (fuel tx : ℕ) (frames : List Frame) (n : ℕ) (held : Option (List Value)) (s : Step) → step_of src tables after fuel k tx frames n held ≡ Some s → IsThere k held
  is_there (kind.Enter at method args) fuel tx frames n held s h = tt
  is_there (kind.Make at args) fuel tx frames n held s h = tt
  is_there (kind.Done o) fuel tx frames n held s h = tt
  is_there (kind.Resume o) fuel tx frames n (Some fields) s h = tt
  is_there (kind.Resume o) fuel tx frames n None s h = by (lasts frames) h
    where
      by : (l : Option Lasts) → resume src tables after fuel o tx l n None ≡ Some s → ⊥
      by None h = none-some s h
      by (Some l) h = none-some s h

  target_same : (k : EventKind) (l q : Option Lasts) → LastsAlike l q → target_of k l ≡ target_of k q
  target_same (kind.Enter at method args) l q a = refl
  target_same (kind.Make at args) l q a = refl
  target_same (kind.Done o) l q a = refl
  target_same (kind.Resume o) _ _ no_last = refl
  target_same (kind.Resume o) _ _ (one_last fs (one_frame same)) = refl

  world_same : (w : World) (at : Key) (s t : Step) → StepAlike s t → behind w at s ≡ behind w at t
  world_same w at _ _ (one_step e) = refl

  next_alike : (s t : Step) → StepAlike s t → EventAlike s.next t.next
  next_alike _ _ (one_step e) = e

  -- an event that is handled on the whole graph is handled on the cut one
  record HandledToo (w : World) (d : Event) (mid : World) (next : Event) : Type 0 where
    next_too : Event
    by : Handles src tables after w d mid next_too
    alike : EventAlike next next_too
    state : StateFits tables mid.state
    fit : EventFits tables after next_too

  handled_too : (w : World) (e d : Event) (mid : World) (next : Event) → EventAlike e d → StateFits tables w.state → EventFits tables after d → Handles src tables before w e mid next → HandledToo w d mid next
  handled_too w _ _ mid next (one_event {tx = tx} {n = n} {fs = fs} {gs = gs} {k = k} a) state fit h = record {
    next_too = t.step.next;
    by = record { target = h.target; is_target = target; step = t.step; by = by; is_after = mid_is; is_next = refl };
    alike = subst (λ e. EventAlike e t.step.next) (sym h.is_next) (next_alike h.step t.step t.alike);
    state = subst (λ (v : World). StateFits tables v.state) (sym mid_is) (left_fits w.state (key_of h.target) t.step.held state well.0);
    fit = well.1;
  }
    where
      held : Option (List Value)
      held = map.get w.state (key_of h.target)

      t : StepToo h.step (step_of src tables after h.by.fuel k tx gs n held)
      t = step_alike h.by.fuel k tx fs gs n held fit.frames fit.kind a h.step h.by.by

      by : StepsTo src tables after (event tx n gs k) held t.step
      by = record { fuel = h.by.fuel; by = t.is }

      target : target_of k (lasts gs) ≡ Some h.target
      target = sym (target_same k (lasts fs) (lasts gs) (lasts_alike a)) ∙ h.is_target

      mid_is : mid ≡ behind w (key_of h.target) t.step
      mid_is = h.is_after ∙ world_same w (key_of h.target) h.step t.step t.alike

      ready : IsReady tables after (event tx n gs k) held
      ready = record { fits = fit; target = h.target; is_target = target; held_fits = held_fits w.state h.target state; there = is_there k h.by.fuel tx gs n held t.step t.is }

      well : HeldFits tables h.target.class t.step.held × EventFits tables after t.step.next
      well = step_fits names program accepted after fits (event tx n gs k) held ready t.step by

  record ComesToo (w : World) (d : Event) (end : World) (last : Event) : Type 0 where
    events : List Event
    last_too : Event
    by : Comes src tables after w d events end last_too
    alike : EventAlike last last_too

  comes_too : (es : List Event) (w : World) (e d : Event) (end : World) (last : Event) → EventAlike e d → StateFits tables w.state → EventFits tables after d → Comes src tables before w e es end last → ComesToo w d end last
  unfolding Comes
  comes_too [] w e d end last a state fit c = record { events = []; last_too = d; by = (c.0, refl); alike = subst (λ e. EventAlike e d) (sym c.1) a }
  comes_too (x ∷ es) w e d end last a state fit c =
      let h : HandledToo w d c.1 c.2 = handled_too w e d c.1 c.2 a state fit c.3 in
      let rest : ComesToo c.1 h.next_too end last = comes_too es c.1 c.2 h.next_too end last h.alike h.state h.fit c.4 in
      record { events = d ∷ rest.events; last_too = rest.last_too; by = (refl, c.1, h.next_too, h.by, rest.by); alike = rest.alike }

  first_alike : (tx : ℕ) (asked : Act) → EventAlike (first_event src tx asked) (first_event src tx asked)
  first_alike tx asked = by (is_too_heavy asked)
    where
      by : (heavy : Bool) → EventAlike (if heavy then event tx steps_at_first [] (kind.Done (outcome.Failed size_limit)) else event tx steps_behind_first [] (asked_for src asked))
          (if heavy then event tx steps_at_first [] (kind.Done (outcome.Failed size_limit)) else event tx steps_behind_first [] (asked_for src asked))
      by true = one_event no_frame
      by false = one_event no_frame

  first_fits : (tx : ℕ) (asked : Act) → ActFits tables asked → EventFits tables after (first_event src tx asked)
  unfolding FramesFit
  first_fits tx asked fit = by (is_too_heavy asked) asked fit
    where
      by : (heavy : Bool) (asked : Act) → ActFits tables asked → EventFits tables after (if heavy then event tx steps_at_first [] (kind.Done (outcome.Failed size_limit)) else event tx steps_behind_first [] (asked_for src asked))
      by true asked fit = record { frames = tt; kind = tt }
      by false (act.Call class key method args) fit = record { frames = tt; kind = (fit, tt) }
      by false (act.New class args) fit = record { frames = tt; kind = (fit, tt) }

  end_same : (s : State) (w : World) (e d : Event) → EventAlike e d → ended_as s w e.steps e.kind ≡ ended_as s w d.steps d.kind
  end_same s w _ _ (one_event a) = refl

  pub still_means : GraphMeans names program before → GraphMeans names program after
  still_means means s state asked fit tx =
      let m : EndsAsRun src tables before tx s asked = means s state asked fit tx in
      let c : ComesToo (at_first s) (first_event src tx asked) m.world m.last = comes_too m.events (at_first s) (first_event src tx asked) (first_event src tx asked) m.world m.last (first_alike tx asked) state (first_fits tx asked fit) m.by in
      record { events = c.events; world = m.world; last = c.last_too; by = c.by; is = sym (end_same s m.world m.last c.last_too c.alike) ∙ m.is }
