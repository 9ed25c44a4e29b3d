-- An event that fits comes to a step, and what it leaves fits again.
use Rattle.std.proofs.Common.{◌≡◌, ℕ, suc, arith, ◌+◌, ◌*◌, ◌-◌, true, false, not, Option, Some, None, List, [], ◌∷◌, ◌++◌, length, map as over, refl, sym, ap, ◌∙◌, subst, true≢false}
use Rattle.std.specs.Prelude.{◌==◌, slice_get, filter, option_and_then, is_some}
use Rattle.std.specs.List.{All, list_any, flat_map}
use Rattle.std.proofs.lemmas.Option.{same_Some, none-some}
use Rattle.py_tree.specs.PlainTypes.{PlainTy, TEntity}
use Rattle.py_tree.specs.PlainProgram.{PlainMethod, PlainProgram}
use Rattle.py_tree.specs.ClassRules.{PlainSig, PlainTable, params_of, sig_of, sig_params, tables_of}
use Rattle.py_tree.specs.FlowEnvironment.{PlainLocal}
use Rattle.py_tree.specs.Flow.{Context, sig_at, in_method, result_in, result_at}
use Rattle.call_graph.specs.SuspendingCode.{Leaving, leaving}
use Rattle.sf_value.specs.Keys.{Key}
use Rattle.sf_value.specs.declared.Failure.{Failure}
use Rattle.sf_value.specs.declared.value.Value.{Value}
use Rattle.sf_value.specs.declared.value.Value.TheVariants as value
use Rattle.sf_value.specs.declared.value.Ref.{Ref}
use Rattle.sf_value.specs.declared.Outcome.{Outcome}
use Rattle.sf_value.specs.declared.Outcome.TheVariants as outcome
use Rattle.program_meaning.specs.declared.vars.Var.{Var}
use Rattle.program_meaning.specs.ClassTables.{Source, methods_of}
use Rattle.program_meaning.specs.World.{Gives, Got, Fell, no_entity, already_exists, assigned}
use Rattle.program_meaning.specs.Calls.{bound, made_record}
use Rattle.program_meaning.specs.Fits.{HasTable, Fits, entity as entity_fits, RecordFits, CallFits, FailureFits, param_types, EachFits}
use Rattle.program_meaning.specs.NothingGoesWrong.{IsKnownAccepted, MakesFit}
use Rattle.program_meaning.specs.HereInState.{KeepsWithin}
use Rattle.program_meaning.proofs.Soundness.{inits_fit}
use Rattle.program_meaning.proofs.TableFacts.{all_at, then_found}
use Rattle.program_meaning.proofs.ValuesFit.{failure_fits}
use Rattle.quiet_methods.proofs.QuietMethods.{marks_keep_within}
use Rattle.block_code.specs.declared.event.Frame.{Frame}
use Rattle.block_code.specs.declared.event.Event.{Event}
use Rattle.block_code.specs.declared.event.EventKind.{EventKind}
use Rattle.block_code.specs.declared.event.EventKind.TheVariants as kind
use Rattle.block_code.specs.PlainVars.{PlainVar}
use Rattle.block_code.specs.PlainBlocks.{PlainEnd, EJump, EBranch, ELeave, ECall, EMake, PlainCatch, PlainBlock}
use Rattle.block_code.specs.Places.{blocks_of}
use Rattle.block_code.specs.GraphFits.{GraphFits, MethodFits, BlockFits, CatchFits, EndFits, Takes, Leads, at_start, each_once, var_of, var_of_param}
use Rattle.block_code.specs.EventsFit.{catch_of, params_if_there, kept_params, IsKept, FrameFits, CallsIt, MakesIt, awaited_type, result_of_method, entity_of_class, AnswersIt, WaitsSo, FramesFit, OfLast, KindFits, EventFits}
use Rattle.block_runs.specs.BlockRuns.{run_blocks}
use Rattle.block_runs.specs.EventStep.{Part, Gave, Failed, Asks, Wants, waiting, has_room, kept_if, kept_at, Lasts, lasts, resumed, Step, target_of, block_of, given, caught, thrown, frame, site, finish, finished, from, created, go_on, awaited_by, catch, caught_by, resume, step_of}
use Rattle.block_runs.specs.StepFits.{HeldFits, IsThere, IsReady, StepsWell, EventsStepWell}
use Rattle.block_runs.proofs.Variables.{Kept, all_of_each, filter_passes}
use Rattle.program_meaning.proofs.NamesApart.{IsMethod, method_is}
use Rattle.block_runs.proofs.NamesOnce.{Once, once_stays, once_filtered}
use Rattle.block_runs.proofs.Ranks.{above}
use Rattle.block_runs.proofs.Parts.{catch_found, Waits, PartFits, Comes, blocks_well}
use Rattle.block_runs.proofs.Frames.{WaitsFor, last_more, last_pushed, pushed_fit, LastFits, lasts_fit, last_holds, StayFit, caught_fit}
use Rattle.block_runs.proofs.Entries.{Among, among_first, among_second, among_flat, bound_once, bound_kept, kept_filtered, result_kept, end_reached, end_takes}

module _ (names : List (List ℕ)) (program : PlainProgram) (accepted : IsKnownAccepted names program) (graph : List (List PlainBlock)) (fits : GraphFits names program graph) where
  abbrev src : Source
  src = record { program = program; names = names }

  abbrev tables : List PlainTable
  tables = tables_of names program

  abbrev blocks : ℕ → ℕ → List PlainBlock
  blocks class method = blocks_of tables graph class method

  abbrev c : ℕ → ℕ → Context
  c class method = in_method tables class method

  abbrev leaves : ℕ → Leaving
  leaves class = leaving names program fits.marks class

  within : (class : ℕ) → KeepsWithin src class (leaves class)
  within class = marks_keep_within names program accepted.rules fits.marks fits.exact class

  -- Methods

  record HasMethod (class method : ℕ) (sig : PlainSig) : Type 0 where
    table : PlainTable
    has_table : HasTable tables class table
    has_sig : sig_at tables class method ≡ Some sig
    is : PlainMethod
    at : slice_get (methods_of src class) method ≡ Some is
    is_sig : sig_of is ≡ sig
    fit : MethodFits names program (leaves class) class method is (blocks class method)

  method_here : (class method : ℕ) (sig : PlainSig) → sig_at tables class method ≡ Some sig → HasMethod class method sig
  method_here class method sig has =
      let t : (t : PlainTable) × HasTable tables class t × (slice_get t.methods method ≡ Some sig) = then_found (λ (t : PlainTable). slice_get t.methods method) (slice_get tables class) sig has in
      let m : IsMethod names program accepted.rules.classes accepted.rules.flow class method sig = method_is names program accepted.rules.classes accepted.rules.flow class method t.0 sig t.1 t.2 in
      record { table = t.0; has_table = t.1; has_sig = has; is = m.is; at = m.at; is_sig = m.is_sig; fit = fits.methods class method m.is m.at }

  some_sig : (o : Option PlainSig) → is_some o ≡ true → (sig : PlainSig) × (o ≡ Some sig)
  some_sig None h = absurd (true≢false (sym h))
  some_sig (Some sig) h = (sig, refl)

  method_of_frame : (f : Frame) → FrameFits tables graph f → (sig : PlainSig) × HasMethod f.at.class f.method sig
  method_of_frame f fit =
      let sig : (sig : PlainSig) × (sig_at tables f.at.class f.method ≡ Some sig) = some_sig (sig_at tables f.at.class f.method) fit.has_method in
      (sig.0, method_here f.at.class f.method sig.0 sig.1)

  -- Events

  calls_awaits : (class method : ℕ) (sig : PlainSig) (e : PlainEnd) → sig_at tables class method ≡ Some sig → CallsIt e class method → awaited_type tables e ≡ Some sig.result
  calls_awaits class method sig (ECall on k m args into to) has p = ap (λ i. result_of_method (sig_at tables i m)) p.0 ∙ ap (λ i. result_of_method (sig_at tables class i)) p.1 ∙ ap result_of_method has
  calls_awaits class method sig (EJump to) has p = absurd p
  calls_awaits class method sig (EBranch test holds other) has p = absurd p
  calls_awaits class method sig ELeave has p = absurd p
  calls_awaits class method sig (EMake k args into to) has p = absurd p

  makes_awaits : (class : ℕ) (t : PlainTable) (e : PlainEnd) → HasTable tables class t → MakesIt e class → awaited_type tables e ≡ Some (TEntity t.name)
  makes_awaits class t (EMake k args into to) has p = ap (λ i. entity_of_class (slice_get tables i)) p ∙ ap entity_of_class has
  makes_awaits class t (EJump to) has p = absurd p
  makes_awaits class t (EBranch test holds other) has p = absurd p
  makes_awaits class t ELeave has p = absurd p
  makes_awaits class t (ECall on k m args into to) has p = absurd p

  abbrev Answered : Outcome → List Frame → Type 0
  Answered o frames = OfLast tables graph (WaitsSo tables graph (λ b. AnswersIt tables b o)) frames

  resumed_fits : (frames : List Frame) (o : Outcome) → Answered o frames → KindFits tables graph (resumed frames o) frames
  resumed_fits [] o a = tt
  resumed_fits (f ∷ fs) o a = (tt, a)

  given_fits : (tx : ℕ) (frames : List Frame) (v : Value) (n : ℕ) → FramesFit tables graph frames → Answered (outcome.Value v) frames → EventFits tables graph (given src tables graph tx frames v n)
  given_fits tx frames v n fit a = record { frames = fit; kind = resumed_fits frames (outcome.Value v) a }

  thrown_fits : (tx : ℕ) (frames : List Frame) (f : Failure) (n : ℕ) → FramesFit tables graph frames → FailureFits f → EventFits tables graph (thrown src tables graph tx frames f n)
  thrown_fits tx frames f n fit e =
      let s : StayFit tables graph src f e frames (caught src tables graph frames f) = caught_fit tables graph src f e frames fit in
      record { frames = s.frames; kind = resumed_fits (caught src tables graph frames f) (outcome.Failed f) s.last }

  -- the method that these frames wait for gives a value
  abbrev Waited : ℕ → ℕ → List Frame → Type 0
  Waited class method frames = OfLast tables graph (WaitsFor tables graph class method) frames

  answers_call : (class method : ℕ) (sig : PlainSig) (frames : List Frame) (v : Value) → sig_at tables class method ≡ Some sig → Fits tables sig.result v → Waited class method frames → Answered (outcome.Value v) frames
  answers_call class method sig frames v has fit waited =
      last_more tables graph _ _ frames (λ f w. record { waits = w.waits; is_block = w.is_block; so = (sig.result, calls_awaits class method sig w.waits.end has w.so, fit) }) waited

  -- what a frame keeps that waits where this method does
  frame_fits : (at : Ref) (method : ℕ) (sig : PlainSig) (number : ℕ) (vars : List Var) (So : PlainEnd → Type 0) → sig_at tables at.class method ≡ Some sig → Waits tables (blocks at.class method) number vars So → FrameFits tables graph (frame src tables graph at method number vars)
  frame_fits at method sig number vars So has w = record {
    has_method = ap is_some has;
    waits = w.waits;
    is_block = w.is_block;
    reached = w.reached;
    for = w.for;
    awaits = w.awaits;
    once = subst (λ us. Once us) (sym are) (once_filtered (λ v. list_any (λ p. p.name == v.name.0) params) vars w.once);
    named = subst (λ us. All (λ (v : Var). list_any (λ (p : PlainVar). p.name == v.name.0) params ≡ true) us) (sym are) (all_of_each _ _ (λ k v is. filter_passes (λ v. list_any (λ p. p.name == v.name.0) params) vars k v is));
    kept = all_of_each _ params (λ k p is. subst (λ us. IsKept tables us p) (sym are) (kept_filtered tables params vars w.kept k p is));
  }
    where
      params : List PlainVar
      params = kept_params (blocks at.class method) w.waits w.for

      are : kept_at (blocks at.class method) (slice_get (blocks at.class method) number) vars ≡ filter (λ v. list_any (λ p. p.name == v.name.0) params) vars
      are = ap (λ o. kept_at (blocks at.class method) o vars) w.is_block ∙ ap (λ o. kept_if (blocks at.class method) w.waits o vars) w.awaits

  -- Steps

  -- this comes to a step that leaves what fits
  record IsWell (class : ℕ) (o : Option Step) : Type 0 where
    step : Step
    is : o ≡ Some step
    held : HeldFits tables class step.held
    next : EventFits tables graph step.next

  finish_well : (at : Ref) (method tx : ℕ) (sig : PlainSig) (frames : List Frame) (p : Part) → sig_at tables at.class method ≡ Some sig → FramesFit tables graph frames → Waited at.class method frames → PartFits tables at.class (blocks at.class method) sig.result p
      → IsWell at.class (Some (finish src tables graph at method tx frames p))
  finish_well at method tx sig frames (Gave v h n) has fit waited p = record { step = _; is = refl; held = p.1; next = given_fits tx frames v n fit (answers_call at.class method sig frames v has p.0 waited) }
  finish_well at method tx sig frames (Failed f h n) has fit waited p = record { step = _; is = refl; held = p.1; next = thrown_fits tx frames f n fit p.0 }
  finish_well at method tx sig frames (Asks to called args number vars h n) has fit waited p =
      let w : Waits tables (blocks at.class method) number vars (λ e. CallsIt e to.0 called) = p.0 in
      let one : Frame = frame src tables graph at method number vars in
      record {
        step = _;
        is = refl;
        held = p.2;
        next = record {
          frames = pushed_fit tables graph frames one fit (frame_fits at method sig number vars _ has w) waited;
          kind = (p.1, last_pushed tables graph (WaitsFor tables graph to.0 called) frames one (record { waits = w.waits; is_block = w.is_block; so = w.so }));
        };
      }
  finish_well at method tx sig frames (Wants class args number vars h n) has fit waited p =
      let w : Waits tables (blocks at.class method) number vars (λ e. MakesIt e class) = p.0 in
      let one : Frame = frame src tables graph at method number vars in
      record {
        step = _;
        is = refl;
        held = p.2;
        next = record {
          frames = pushed_fit tables graph frames one fit (frame_fits at method sig number vars _ has w) waited;
          kind = (p.1, last_pushed tables graph (WaitsSo tables graph (λ b. MakesIt b.end class)) frames one (record { waits = w.waits; is_block = w.is_block; so = w.so }));
        };
      }

  finished_well : (at : Ref) (method tx : ℕ) (sig : PlainSig) (frames : List Frame) (o : Option Part) → sig_at tables at.class method ≡ Some sig → FramesFit tables graph frames → Waited at.class method frames → Comes tables at.class (blocks at.class method) sig.result o
      → IsWell at.class (finished src tables graph at method tx frames o)
  finished_well at method tx sig frames None has fit waited p = absurd p
  finished_well at method tx sig frames (Some part) has fit waited p = finish_well at method tx sig frames part has fit waited p

  -- so much fuel is enough from this block on
  abbrev enough : ℕ → ℕ → ℕ → PlainBlock → ℕ
  enough class method n target = suc (n * above (blocks class method) + target.rank)

  from_well : (at : Ref) (method tx : ℕ) (sig : PlainSig) (frames : List Frame) (to : ℕ) (target : PlainBlock) (vars : List Var) (fields : List Value) (n : ℕ) → HasMethod at.class method sig → FramesFit tables graph frames → Waited at.class method frames
      → slice_get (blocks at.class method) to ≡ Some target → Kept tables vars target.params → Once vars → RecordFits tables at.class fields → IsWell at.class (from src tables graph (enough at.class method n target) at method tx frames to vars fields n)
  unfolding result_at
  from_well at method tx sig frames to target vars fields n m fit waited is kept once record_fits =
      let result : result_at (c at.class method) ≡ sig.result = ap result_in m.has_sig in
      let key : Key = (at.class, at.key) in
      let part : Comes tables at.class (blocks at.class method) (result_at (c at.class method)) (run_blocks (site src tables graph at frames) (waiting (has_room frames)) (blocks at.class method) (enough at.class method n target) to vars (record { fields = fields; wrote = false }) n)
      = blocks_well names program accepted key (leaves at.class) (within at.class) (63 - length frames) method (over var_of m.fit.locals ++ m.fit.temporaries) (blocks at.class method) m.fit.one_type m.fit.each (has_room frames)
      (enough at.class method n target) to target vars (record { fields = fields; wrote = false }) n is kept once record_fits (omega arith) in
      finished_well at method tx sig frames _ m.has_sig fit waited (subst (λ ty. Comes tables at.class (blocks at.class method) ty (run_blocks (site src tables graph at frames) (waiting (has_room frames)) (blocks at.class method) (enough at.class method n target) to vars (record { fields = fields; wrote = false }) n)) result part)

  -- and so does a run with some fuel
  record RunsWell (class : ℕ) (run : ℕ → Option Step) : Type 0 where
    fuel : ℕ
    well : IsWell class (run fuel)

  -- Entering

  enter_well : (at : Ref) (method : ℕ) (args : List Value) (tx : ℕ) (frames : List Frame) (n : ℕ) (fields : List Value) → CallFits tables at.class method args → Waited at.class method frames → FramesFit tables graph frames → RecordFits tables at.class fields
      → RunsWell at.class (λ fuel. from src tables graph fuel at method tx frames 0 (bound (params_of (slice_get (methods_of src at.class) method)) args) fields n)
  enter_well at method args tx frames n fields call waited fit record_fits =
      let has : sig_at tables at.class method ≡ Some call.sig = ap (λ o. option_and_then (λ (t : PlainTable). slice_get t.methods method) o) call.has_table ∙ call.has_method in
      let m : HasMethod at.class method call.sig = method_here at.class method call.sig has in
      let start : PlainBlock = m.fit.start in
      let own : m.fit.sig ≡ call.sig = same_Some _ _ (sym m.fit.has_sig ∙ has) in
      let params : start.params ≡ over var_of_param (sig_params m.is.params) = m.fit.start_params ∙ ap (λ (s : PlainSig). over var_of_param s.params) (own ∙ sym m.is_sig) in
      let block : BlockFits (c at.class method) (leaves at.class) (over var_of m.fit.locals ++ m.fit.temporaries) (blocks at.class method) start = all_at (BlockFits (c at.class method) (leaves at.class) (over var_of m.fit.locals ++ m.fit.temporaries) (blocks at.class method)) (blocks at.class method) 0 start m.fit.each m.fit.is_start in
      let once : each_once (over var_of_param (sig_params m.is.params)) ≡ true = sym (ap each_once params) ∙ block.once in
      let given_args : EachFits tables (param_types (sig_params m.is.params)) args = subst (λ (s : PlainSig). EachFits tables (param_types s.params) args) (sym m.is_sig) call.fit in
      let kept : Kept tables (bound m.is.params args) start.params = subst (λ ps. Kept tables (bound m.is.params args) ps) (sym params) (bound_kept tables m.is.params args once given_args) in
      let ran : IsWell at.class (from src tables graph (enough at.class method n start) at method tx frames 0 (bound m.is.params args) fields n) =
      from_well at method tx call.sig frames 0 start (bound m.is.params args) fields n m fit waited m.fit.is_start kept (bound_once tables m.is.params args once) record_fits in
      record { fuel = enough at.class method n start; well = subst (λ o. IsWell at.class (from src tables graph (enough at.class method n start) at method tx frames 0 (bound (params_of o) args) fields n)) (sym m.at) ran }

  -- Making

  created_well : (at : Ref) (tx : ℕ) (t : PlainTable) (frames : List Frame) (g : Gives (List Value) Value) → HasTable tables at.class t → FramesFit tables graph frames → OfLast tables graph (WaitsSo tables graph (λ b. MakesIt b.end at.class)) frames → MakesFit tables at.class g
      → IsWell at.class (Some (created src tables graph at tx frames g))
  created_well at tx t frames (Got v fields n) has fit waited p = record {
    step = _;
    is = refl;
    held = p;
    next = given_fits tx frames (value.Entity at) n fit
        (last_more tables graph _ _ frames (λ f w. record { waits = w.waits; is_block = w.is_block; so = (TEntity t.name, makes_awaits at.class t w.waits.end has w.so, entity_fits at has) }) waited);
  }
  created_well at tx t frames (Fell f fields n) has fit waited p = record { step = _; is = refl; held = tt; next = thrown_fits tx frames f n fit p }

  -- Going on

  -- where a frame waits, what its method says of its block
  block_of_frame : (f : Frame) (sig : PlainSig) (w : FrameFits tables graph f) → (m : HasMethod f.at.class f.method sig) → BlockFits (c f.at.class f.method) (leaves f.at.class) (over var_of m.fit.locals ++ m.fit.temporaries) (blocks f.at.class f.method) w.waits
  block_of_frame f sig w m = all_at (BlockFits (c f.at.class f.method) (leaves f.at.class) (over var_of m.fit.locals ++ m.fit.temporaries) (blocks f.at.class f.method)) (blocks f.at.class f.method) f.block w.waits m.fit.each w.is_block

  -- what a frame has for the block behind its call, but for the result
  has_behind : (f : Frame) (w : FrameFits tables graph f) (target : PlainBlock) → slice_get (blocks f.at.class f.method) w.for.after ≡ Some target → Kept tables f.vars (filter (λ p. not (p.name == w.for.into)) target.params)
  has_behind f w target there j p is =
      let here : slice_get (filter (λ p. not (p.name == w.for.into)) (params_if_there (slice_get (blocks f.at.class f.method) w.for.after))) j ≡ Some p =
      subst (λ o. slice_get (filter (λ p. not (p.name == w.for.into)) (params_if_there o)) j ≡ Some p) (sym there) is in
      let at : Among (kept_params (blocks f.at.class f.method) w.waits w.for) p = among_first _ _ j p here in
      all_at (IsKept tables f.vars) (kept_params (blocks f.at.class f.method) w.waits w.for) at.0 p w.kept at.1

  -- and for the target of a catch
  has_caught : (f : Frame) (w : FrameFits tables graph f) (i : ℕ) (by : PlainCatch) (target : PlainBlock) → slice_get w.waits.catches i ≡ Some by → slice_get (blocks f.at.class f.method) by.to ≡ Some target → Kept tables f.vars target.params
  has_caught f w i by target is there j p at =
      let all : PlainCatch → List PlainVar = λ by. params_if_there (slice_get (blocks f.at.class f.method) by.to) in
      let one : Among (flat_map all w.waits.catches) p = among_flat all w.waits.catches i j by p is (subst (λ o. slice_get (params_if_there o) j ≡ Some p) (sym there) at) in
      let here : Among (kept_params (blocks f.at.class f.method) w.waits w.for) p = among_second _ _ one.0 p one.1 in
      all_at (IsKept tables f.vars) (kept_params (blocks f.at.class f.method) w.waits w.for) here.0 p w.kept here.1

  value_well : (l : Lasts) (frames : List Frame) (v : Value) (tx : ℕ) (fields : List Value) (n : ℕ) → LastFits tables graph frames l → WaitsSo tables graph (λ b. AnswersIt tables b (outcome.Value v)) l.last → RecordFits tables l.last.at.class fields
      → RunsWell l.last.at.class (λ fuel. go_on src tables graph fuel (awaited_by src tables graph (block_of src tables graph l.last)) v tx l fields n)
  value_well l frames v tx fields n k answer record_fits =
      let f : Frame = l.last in
      let w : FrameFits tables graph f = k.last in
      let m : (sig : PlainSig) × HasMethod f.at.class f.method sig = method_of_frame f w in
      let b : BlockFits (c f.at.class f.method) (leaves f.at.class) (over var_of m.1.fit.locals ++ m.1.fit.temporaries) (blocks f.at.class f.method) w.waits = block_of_frame f m.0 w m.1 in
      let e : (after : List PlainLocal) × EndFits (c f.at.class f.method) (leaves f.at.class) (blocks f.at.class f.method) w.waits.end after = end_reached (c f.at.class f.method) (leaves f.at.class) w.waits.code (EndFits (c f.at.class f.method) (leaves f.at.class) (blocks f.at.class f.method) w.waits.end) (at_start (over var_of m.1.fit.locals ++ m.1.fit.temporaries) w.waits.params) b.fits w.reached in
      let t : (ty : PlainTy) × (awaited_type tables w.waits.end ≡ Some ty) × Takes e.0 w.for.into ty (Leads (blocks f.at.class f.method) w.for.after) = end_takes (c f.at.class f.method) (leaves f.at.class) (blocks f.at.class f.method) w.waits.end w.for e.0 w.awaits e.1 in
      let same : answer.waits ≡ w.waits = same_Some _ _ (sym answer.is_block ∙ w.is_block) in
      let typed : answer.so.0 ≡ t.0 = same_Some _ _ (sym answer.so.1 ∙ ap (λ (b : PlainBlock). awaited_type tables b.end) same ∙ t.1) in
      let fit : Fits tables t.0 v = subst (λ ty. Fits tables ty v) typed answer.so.2 in
      let target : PlainBlock = t.2.goes.target in
      let first : Kept tables f.vars (filter (λ p. not (p.name == w.for.into)) target.params) = has_behind f w target t.2.goes.is in
      let kept : Kept tables (assigned f.vars w.for.into v) target.params = result_kept tables (blocks f.at.class f.method) w.for.into w.for.after t.0 e.0 f.vars v t.2 fit first in
      let ran : IsWell f.at.class (from src tables graph (enough f.at.class f.method n target) f.at f.method tx l.before w.for.after (assigned f.vars w.for.into v) fields n) =
      from_well f.at f.method tx m.0 l.before w.for.after target (assigned f.vars w.for.into v) fields n m.1 k.before k.waited t.2.goes.is kept (once_stays f.vars w.for.into v w.once) record_fits in
      let here : awaited_by src tables graph (block_of src tables graph f) ≡ Some w.for = ap (λ o. awaited_by src tables graph o) w.is_block ∙ w.awaits in
      record { fuel = enough f.at.class f.method n target; well = subst (λ o. IsWell f.at.class (go_on src tables graph (enough f.at.class f.method n target) o v tx l fields n)) (sym here) ran }

  is_caught : (o : Option ℕ) → is_some o ≡ true → (to : ℕ) × (o ≡ Some to)
  is_caught None h = absurd (true≢false (sym h))
  is_caught (Some to) h = (to, refl)

  failure_well : (l : Lasts) (frames : List Frame) (x : Failure) (tx : ℕ) (fields : List Value) (n : ℕ) → LastFits tables graph frames l → WaitsSo tables graph (λ b. AnswersIt tables b (outcome.Failed x)) l.last → RecordFits tables l.last.at.class fields
      → RunsWell l.last.at.class (λ fuel. catch src tables graph fuel (caught_by src tables graph (block_of src tables graph l.last) x) tx l fields n)
  failure_well l frames x tx fields n k answer record_fits =
      let f : Frame = l.last in
      let w : FrameFits tables graph f = k.last in
      let m : (sig : PlainSig) × HasMethod f.at.class f.method sig = method_of_frame f w in
      let b : BlockFits (c f.at.class f.method) (leaves f.at.class) (over var_of m.1.fit.locals ++ m.1.fit.temporaries) (blocks f.at.class f.method) w.waits = block_of_frame f m.0 w m.1 in
      let same : answer.waits ≡ w.waits = same_Some _ _ (sym answer.is_block ∙ w.is_block) in
      let to : (to : ℕ) × (catch_of w.waits.catches x.kind ≡ Some to) = is_caught (catch_of w.waits.catches x.kind) (ap (λ (b : PlainBlock). is_some (catch_of b.catches x.kind)) (sym same) ∙ answer.so.1) in
      let found : (j : ℕ) × (by : PlainCatch) × (slice_get w.waits.catches j ≡ Some by) × (by.to ≡ to.0) = catch_found w.waits.catches x.kind to.0 to.1 in
      let t : CatchFits (c f.at.class f.method) (blocks f.at.class f.method) w.waits (at_start (over var_of m.1.fit.locals ++ m.1.fit.temporaries) w.waits.params) found.1 = all_at (CatchFits (c f.at.class f.method) (blocks f.at.class f.method) w.waits (at_start (over var_of m.1.fit.locals ++ m.1.fit.temporaries) w.waits.params)) w.waits.catches found.0 found.1 b.catches found.2 in
      let kept : Kept tables f.vars t.target.params = has_caught f w found.0 found.1 t.target found.2 t.is in
      let there : slice_get (blocks f.at.class f.method) to.0 ≡ Some t.target = subst (λ i. slice_get (blocks f.at.class f.method) i ≡ Some t.target) found.3 t.is in
      let ran : IsWell f.at.class (from src tables graph (enough f.at.class f.method n t.target) f.at f.method tx l.before to.0 f.vars fields n) =
      from_well f.at f.method tx m.0 l.before to.0 t.target f.vars fields n m.1 k.before k.waited there kept w.once record_fits in
      let here : caught_by src tables graph (block_of src tables graph f) x ≡ Some to.0 = ap (λ o. caught_by src tables graph o x) w.is_block ∙ to.1 in
      record { fuel = enough f.at.class f.method n t.target; well = subst (λ o. IsWell f.at.class (catch src tables graph (enough f.at.class f.method n t.target) o tx l fields n)) (sym here) ran }

  -- All events

  resume_well : (o : Outcome) (tx : ℕ) (frames : List Frame) (n : ℕ) (fields : List Value) (target : Ref) (l : Option Lasts) → lasts frames ≡ l → FramesFit tables graph frames → Answered o frames → target_of (kind.Resume o) l ≡ Some target → RecordFits tables target.class fields
      → RunsWell target.class (λ fuel. resume src tables graph fuel o tx l n (Some fields))
  resume_well o tx frames n fields target None is fit a there record_fits = absurd (none-some target there)
  resume_well (outcome.Value v) tx frames n fields target (Some l) is fit a there record_fits =
      let same : l.last.at ≡ target = same_Some _ _ there in
      let ran : RunsWell l.last.at.class (λ fuel. resume src tables graph fuel (outcome.Value v) tx (Some l) n (Some fields)) =
      value_well l frames v tx fields n (lasts_fit tables graph frames l is fit) (last_holds tables graph (WaitsSo tables graph (λ b. AnswersIt tables b (outcome.Value v))) frames l is a) (subst (λ (r : Ref). RecordFits tables r.class fields) (sym same) record_fits) in
      subst (λ (r : Ref). RunsWell r.class (λ fuel. resume src tables graph fuel (outcome.Value v) tx (Some l) n (Some fields))) same ran
  resume_well (outcome.Failed x) tx frames n fields target (Some l) is fit a there record_fits =
      let same : l.last.at ≡ target = same_Some _ _ there in
      let ran : RunsWell l.last.at.class (λ fuel. resume src tables graph fuel (outcome.Failed x) tx (Some l) n (Some fields)) =
      failure_well l frames x tx fields n (lasts_fit tables graph frames l is fit) (last_holds tables graph (WaitsSo tables graph (λ b. AnswersIt tables b (outcome.Failed x))) frames l is a) (subst (λ (r : Ref). RecordFits tables r.class fields) (sym same) record_fits) in
      subst (λ (r : Ref). RunsWell r.class (λ fuel. resume src tables graph fuel (outcome.Failed x) tx (Some l) n (Some fields))) same ran

  step_well : (k : EventKind) (tx : ℕ) (frames : List Frame) (n : ℕ) (held : Option (List Value)) (target : Ref) → FramesFit tables graph frames → KindFits tables graph k frames → target_of k (lasts frames) ≡ Some target → HeldFits tables target.class held → IsThere k held
      → RunsWell target.class (λ fuel. step_of src tables graph fuel k tx frames n held)
  step_well (kind.Enter at method args) tx frames n None target fit asked is held there =
      subst (λ (r : Ref). RunsWell r.class (λ fuel. step_of src tables graph fuel (kind.Enter at method args) tx frames n None)) (same_Some _ _ is)
      (record { fuel = 0; well = record { step = _; is = refl; held = tt; next = thrown_fits tx frames no_entity n fit (failure_fits no_entity (omega arith) (omega arith)) } })
  step_well (kind.Enter at method args) tx frames n (Some fields) target fit asked is held there =
      let same : at ≡ target = same_Some _ _ is in
      subst (λ (r : Ref). RunsWell r.class (λ fuel. step_of src tables graph fuel (kind.Enter at method args) tx frames n (Some fields))) same
      (enter_well at method args tx frames n fields asked.0 asked.1 fit (subst (λ (r : Ref). RecordFits tables r.class fields) (sym same) held))
  step_well (kind.Make at args) tx frames n None target fit asked is held there =
      subst (λ (r : Ref). RunsWell r.class (λ fuel. step_of src tables graph fuel (kind.Make at args) tx frames n None)) (same_Some _ _ is)
      (record { fuel = 0; well = created_well at tx asked.0.table frames (made_record src (at.class, at.key) args n) asked.0.has_table fit asked.1 (inits_fit names program accepted (at.class, at.key) args n asked.0) })
  step_well (kind.Make at args) tx frames n (Some fields) target fit asked is held there =
      let same : at ≡ target = same_Some _ _ is in
      subst (λ (r : Ref). RunsWell r.class (λ fuel. step_of src tables graph fuel (kind.Make at args) tx frames n (Some fields))) same
      (record { fuel = 0; well = record { step = _; is = refl; held = subst (λ (r : Ref). RecordFits tables r.class fields) (sym same) held; next = thrown_fits tx frames already_exists n fit (failure_fits already_exists (omega arith) (omega arith)) } })
  step_well (kind.Resume o) tx frames n None target fit asked is held there = absurd there
  step_well (kind.Resume o) tx frames n (Some fields) target fit asked is held there = resume_well o tx frames n fields target (lasts frames) refl fit asked.1 is held
  step_well (kind.Done o) tx frames n held target fit asked is held_fits there = absurd (none-some target is)

  pub event_well : (e : Event) (held : Option (List Value)) → (r : IsReady tables graph e held) → StepsWell src tables graph e held r.target.class
  event_well e held r =
      let w : RunsWell r.target.class (λ fuel. step_of src tables graph fuel e.kind e.tx e.frames e.steps held) = step_well e.kind e.tx e.frames e.steps held r.target r.fits.frames r.fits.kind r.is_target r.held_fits r.there in
      record { step = w.well.step; by = record { fuel = w.fuel; by = w.well.is }; held_fits = w.well.held; next_fits = w.well.next }

pub events_step_well : EventsStepWell
events_step_well names program accepted graph fits e held r = event_well names program accepted graph fits e held r
