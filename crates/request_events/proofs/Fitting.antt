-- What fits along the events of a request: the event that a call ends with, the step of an event, and the state; an entity that is there
-- and was read stays so.
use Rattle.std.proofs.Common.{◌≡◌, ◌∙◌, ℕ, Bool, true, false, ◌||◌, Option, Some, List, [], ◌∷◌, refl, sym, ap, subst}
use Rattle.std.specs.Prelude.{slice_get, option_and_then}
use Rattle.std.specs.FinMap as map
use Rattle.std.specs.FinSet as set
use Rattle.std.specs.Ordering.{eq_by_cmp}
use Rattle.py_tree.specs.PlainTypes.{TEntity}
use Rattle.py_tree.specs.PlainProgram.{PlainProgram}
use Rattle.py_tree.specs.ClassRules.{PlainSig, PlainTable, tables_of}
use Rattle.py_tree.specs.Flow.{sig_at}
use Rattle.sf_value.specs.Keys.{Key, key_cmp}
use Rattle.sf_value.specs.declared.Failure.{Failure}
use Rattle.sf_value.specs.declared.value.Value.{Value}
use Rattle.sf_value.specs.declared.Outcome.{Outcome}
use Rattle.sf_value.specs.declared.Outcome.TheVariants as outcome
use Rattle.sf_value.proofs.Maps.{key_total, key_exact, tied_key}
use Rattle.program_meaning.specs.ClassTables.{Source}
use Rattle.program_meaning.specs.World.{State, Keys, World, Gives, reading}
use Rattle.program_meaning.specs.Calls.{Held, calls_at}
use Rattle.program_meaning.specs.Fits.{HasTable, RecordFits, StateFits, CallFits, NewFits, FailureFits, ResultFits}
use Rattle.program_meaning.specs.PointFits.{GivesFit, got, fell, MadeFits, Since}
use Rattle.program_meaning.specs.NothingGoesWrong.{IsKnownAccepted}
use Rattle.program_meaning.specs.HereInState.{left_by}
use Rattle.program_meaning.proofs.CallsFit.{insert_fits}
use Rattle.program_meaning.proofs.Soundness.{calls_keep_fit}
use Rattle.program_meaning.proofs.HereLaws.{world_in}
use Rattle.serial_order.proofs.Later.{Later, read_it}
use Rattle.serial_order.proofs.Paired.{itself}
use Rattle.serial_order.proofs.FramedCalls.{calls_follow}
use Rattle.block_code.specs.declared.event.Frame.{Frame}
use Rattle.block_code.specs.declared.event.Event.{Event}
use Rattle.block_code.specs.PlainBlocks.{PlainEnd, EJump, EBranch, ELeave, ECall, EMake, PlainBlock}
use Rattle.block_code.specs.GraphFits.{GraphFits}
use Rattle.block_code.specs.EventsFit.{CallsIt, MakesIt, awaited_type, result_of_method, entity_of_class, AnswersIt, WaitsSo, FramesFit, OfLast, KindFits, EventFits}
use Rattle.block_runs.specs.EventStep.{resumed, Step, StepsTo, caught, thrown}
use Rattle.block_runs.specs.StepFits.{HeldFits, IsReady, StepsWell}
use Rattle.block_runs.proofs.FuelLaws.{steps_are_one}
use Rattle.block_runs.proofs.Frames.{WaitsFor, last_more, StayFit, caught_fit}
use Rattle.block_runs.proofs.WellSteps.{events_step_well}
use Rattle.request_events.proofs.Handling.{back}

-- Entities that were read

added_again : (s : Keys) (k : Key) → set.contains s k ≡ true → set.insert s k ≡ s
added_again s k h = set.same_set key_total key_exact _ _ (λ q. set.contains-insert key_total s k q ∙ by q (eq_by_cmp key_cmp q k) refl)
  where
    by : (q : Key) (b : Bool) → eq_by_cmp key_cmp q k ≡ b → (b || set.contains s q) ≡ set.contains s q
    by q true e = sym (ap (set.contains s) (tied_key q k e) ∙ h)
    by q false e = refl

pub read_again : (w : World) (at : Key) → set.contains w.reads at ≡ true → reading w at ≡ w
read_again w at h = ap (λ keys. record { state = w.state; reads = keys; writes = w.writes }) (added_again w.reads at h)

pub reading_twice : (w : World) (at : Key) → reading (reading w at) at ≡ reading w at
reading_twice w at = read_again (reading w at) at (read_it w at)

was_read : (w : World) (at : Key) → reading w at ≡ w → set.contains w.reads at ≡ true
was_read w at h = subst (λ (v : World). set.contains v.reads at ≡ true) h (read_it w at)

-- an entity is there, and was read
pub record IsHere (me : Key) (w : World) : Type 0 where
  pub fields : List Value
  pub there : map.get w.state me ≡ Some fields
  pub read : reading w me ≡ w

module _ (tables : List PlainTable) where
  pub world_fits : {A : Type 0} (s : State) (P : A → Type 0) (g : Gives World A) → GivesFit (Since tables s) P g → Since tables s (world_in g)
  world_fits s P _ (got p since) = since
  world_fits s P _ (fell p since) = since

  pub since_itself : (w : World) → StateFits tables w.state → Since tables w.state w
  since_itself w fits = record { fits = fits; kept = λ q a is. (a, is) }

  still_here : (me : Key) (v w : World) → Since tables v.state w → Later v w → IsHere me v → IsHere me w
  still_here me v w since later here =
      let b : (b : List Value) × (map.get w.state me ≡ Some b) = since.kept me here.fields here.there in
      record { fields = b.0; there = b.1; read = read_again w me (later.reads me (was_read v me here.read)) }

  -- Events

  module _ (graph : List (List PlainBlock)) (src : Source) where
    abbrev Answered : Outcome → List Frame → Type 0
    Answered o frames = OfLast tables graph (WaitsSo tables graph (λ b. AnswersIt tables b o)) frames

    result_asked : (frames : List Frame) (o : Outcome) → Answered o frames → KindFits tables graph (resumed frames o) frames
    result_asked [] o a = tt
    result_asked (f ∷ fs) o a = (tt, a)

    failure_back : (tx : ℕ) (frames : List Frame) (f : Failure) (n : ℕ) → FramesFit tables graph frames → FailureFits f → EventFits tables graph (thrown src tables graph tx frames f n)
    failure_back tx frames f n fit e =
        let s : StayFit tables graph src f e frames (caught src tables graph frames f) = caught_fit tables graph src f e frames fit in
        record { frames = s.frames; kind = result_asked (caught src tables graph frames f) (outcome.Failed f) s.last }

    call_type : (class method : ℕ) (sig : PlainSig) (e : PlainEnd) → sig_at tables class method ≡ Some sig → CallsIt e class method → awaited_type tables e ≡ Some sig.result
    call_type class method sig (ECall on k m args into to) has p = ap (λ i. result_of_method (sig_at tables i m)) p.0 ∙ ap (λ i. result_of_method (sig_at tables class i)) p.1 ∙ ap result_of_method has
    call_type class method sig (EJump to) has p = absurd p
    call_type class method sig (EBranch test holds other) has p = absurd p
    call_type class method sig ELeave has p = absurd p
    call_type class method sig (EMake k args into to) has p = absurd p

    made_type : (class : ℕ) (t : PlainTable) (e : PlainEnd) → HasTable tables class t → MakesIt e class → awaited_type tables e ≡ Some (TEntity t.name)
    made_type class t (EMake k args into to) has p = ap (λ i. entity_of_class (slice_get tables i)) p ∙ ap entity_of_class has
    made_type class t (EJump to) has p = absurd p
    made_type class t (EBranch test holds other) has p = absurd p
    made_type class t ELeave has p = absurd p
    made_type class t (ECall on k m args into to) has p = absurd p

    -- a call that these frames wait for ends with an event that fits
    pub call_back : (tx : ℕ) (frames : List Frame) (class method : ℕ) (s : State) (g : Gives World Value) → FramesFit tables graph frames → OfLast tables graph (WaitsFor tables graph class method) frames → GivesFit (Since tables s) (ResultFits tables class method) g
        → EventFits tables graph (back src tables graph tx frames g)
    call_back tx frames class method s _ fit waited (got r since) =
        let has : sig_at tables class method ≡ Some r.sig = ap (λ o. option_and_then (λ (t : PlainTable). slice_get t.methods method) o) r.has_table ∙ r.has_method in
        record { frames = fit; kind = result_asked frames _ (last_more tables graph _ _ frames (λ f w. record { waits = w.waits; is_block = w.is_block; so = (r.sig.result, call_type class method r.sig w.waits.end has w.so, r.fits) }) waited) }
    call_back tx frames class method s _ fit waited (fell {f = f} {n = n} e since) = failure_back tx frames f n fit e

    -- and so does a creation
    pub make_back : (tx : ℕ) (frames : List Frame) (class : ℕ) (s : State) (g : Gives World Value) → FramesFit tables graph frames → OfLast tables graph (WaitsSo tables graph (λ b. MakesIt b.end class)) frames → GivesFit (Since tables s) (MadeFits tables class) g
        → EventFits tables graph (back src tables graph tx frames g)
    make_back tx frames class s _ fit waited (got r since) =
        record { frames = fit; kind = result_asked frames _ (last_more tables graph _ _ frames (λ f w. record { waits = w.waits; is_block = w.is_block; so = (TEntity r.table.name, made_type class r.table w.waits.end r.has_table w.so, r.fits) }) waited) }
    make_back tx frames class s _ fit waited (fell {f = f} {n = n} e since) = failure_back tx frames f n fit e

module _ (names : List (List ℕ)) (program : PlainProgram) (accepted : IsKnownAccepted names program) where
  abbrev src : Source
  src = record { program = program; names = names }

  abbrev tables : List PlainTable
  tables = tables_of names program

  -- Calls on the state

  pub call_fits : (d : ℕ) (at : Key) (method : ℕ) (args : List Value) (w : World) (n : ℕ) → StateFits tables w.state → CallFits tables at.0 method args → GivesFit (Since tables w.state) (ResultFits tables at.0 method) ((calls_at src d).call at method args w n)
  call_fits d at method args w n fits call = (calls_keep_fit names program accepted w.state d).call at method args w n call (since_itself tables w fits)

  pub make_fits : (d class : ℕ) (args : List Value) (w : World) (n : ℕ) → StateFits tables w.state → NewFits tables class args → GivesFit (Since tables w.state) (MadeFits tables class) ((calls_at src d).make class args w n)
  make_fits d class args w n fits new = (calls_keep_fit names program accepted w.state d).make class args w n new (since_itself tables w fits)

  pub here_behind_call : (d : ℕ) (me at : Key) (method : ℕ) (args : List Value) (w : World) (n : ℕ) → StateFits tables w.state → CallFits tables at.0 method args → IsHere me w → IsHere me (world_in ((calls_at src d).call at method args w n))
  here_behind_call d me at method args w n fits call here =
      still_here tables me w _ (world_fits tables w.state _ _ (call_fits d at method args w n fits call)) ((calls_follow set.empty src d).call at method args w w n (itself set.empty w)).later here

  pub here_behind_make : (d : ℕ) (me : Key) (class : ℕ) (args : List Value) (w : World) (n : ℕ) → StateFits tables w.state → NewFits tables class args → IsHere me w → IsHere me (world_in ((calls_at src d).make class args w n))
  here_behind_make d me class args w n fits new here =
      still_here tables me w _ (world_fits tables w.state _ _ (make_fits d class args w n fits new)) ((calls_follow set.empty src d).make class args w w n (itself set.empty w)).later here

  -- what code on a record that fits leaves of a state
  pub left_fits : (me : Key) (start : World) (h : Held) → StateFits tables start.state → RecordFits tables me.0 h.fields → StateFits tables (left_by me start h).state
  left_fits me start h fits record_fits = by h.wrote
    where
      by : (b : Bool) → StateFits tables (left_by me start (record { fields = h.fields; wrote = b })).state
      by true = insert_fits tables start.state me h.fields fits record_fits
      by false = fits

  -- Steps

  -- an event that fits comes to a step that leaves what fits
  pub step_fits : (graph : List (List PlainBlock)) → GraphFits names program graph → (e : Event) (held : Option (List Value)) → (r : IsReady tables graph e held) → (s : Step) → StepsTo src tables graph e held s → HeldFits tables r.target.class s.held × EventFits tables graph s.next
  step_fits graph fits e held r s t =
      let w : StepsWell src tables graph e held r.target.class = events_step_well names program accepted graph fits e held r in
      let same : w.step ≡ s = steps_are_one src tables graph e held w.step s w.by t in
      (subst (λ (s : Step). HeldFits tables r.target.class s.held) same w.held_fits, subst (λ (s : Step). EventFits tables graph s.next) same w.next_fits)
