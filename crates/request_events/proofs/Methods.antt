-- The blocks of a method on the record of its entity, event by event, come to what they come to on the whole state.
use Rattle.std.proofs.Common.{◌≡◌, ◌≤◌, ◌∙◌, ℕ, zero, suc, ◌-◌, Bool, true, false, Option, Some, None, List, [], ◌∷◌, ◌++◌, length, if◌then◌else◌, refl, sym, ap, subst}
use Rattle.std.specs.Prelude.{slice_get, is_some}
use Rattle.std.specs.FinMap as map
use Rattle.sf_value.specs.Weight.{weight_of}
use Rattle.std.specs.List.{All}
use Rattle.std.proofs.lemmas.Option.{same_Some, none-some}
use Rattle.py_tree.specs.PlainTypes.{TBool, TEntity}
use Rattle.py_tree.specs.PlainProgram.{PlainProgram}
use Rattle.py_tree.specs.ClassRules.{PlainTable, tables_of}
use Rattle.py_tree.specs.FlowEnvironment.{PlainLocal, shown, narrowed}
use Rattle.py_tree.specs.Flow.{Context, in_method, with_local}
use Rattle.call_graph.specs.SuspendingCode.{Leaving}
use Rattle.sf_value.specs.Keys.{Key, key_of}
use Rattle.sf_value.specs.declared.Failure.{Failure}
use Rattle.sf_value.specs.declared.value.Value.{Value}
use Rattle.sf_value.specs.declared.value.Value.TheVariants as value
use Rattle.sf_value.specs.declared.value.Ref.{Ref}
use Rattle.sf_value.specs.declared.Outcome.TheVariants as outcome
use Rattle.program_meaning.specs.declared.vars.Var.{Var}
use Rattle.program_meaning.specs.ClassTables.{Source}
use Rattle.program_meaning.specs.World.{World, Gives, Got, Fell, Ends, step, step_limit, recursion_error, assigned, reading}
use Rattle.program_meaning.specs.Operations.{is_true}
use Rattle.program_meaning.specs.Evaluation.{Site, entity, key_in, eval, eval_all}
use Rattle.program_meaning.proofs.LightCalls.{calls_are_light}
use Rattle.program_meaning.specs.Calls.{Held, in_state, calls_at, new_key}
use Rattle.program_meaning.specs.Fits.{RecordFits, StateFits}
use Rattle.program_meaning.specs.NothingGoesWrong.{IsKnownAccepted}
use Rattle.program_meaning.specs.HereInState.{KeepsWithin, left_by, IsSeen, GivesAlike, got, fell}
use Rattle.program_meaning.proofs.HereLaws.{world_in}
use Rattle.program_meaning.proofs.TableFacts.{all_at}
use Rattle.block_code.specs.declared.event.Frame.{Frame}
use Rattle.block_code.specs.declared.event.Event.{Event}
use Rattle.block_code.specs.declared.event.EventKind.TheVariants as kind
use Rattle.block_code.specs.PlainVars.{PlainVar}
use Rattle.block_code.specs.PlainBlocks.{PlainEnd, EJump, EBranch, ELeave, ECall, EMake, PlainCatch, PlainBlock}
use Rattle.block_code.specs.Places.{blocks_of}
use Rattle.block_code.specs.GraphFits.{GraphFits, BlockFits, CatchFits, EndFits, Leads, at_start, AtEachItem}
use Rattle.block_code.specs.EventsFit.{Awaits, awaited, catch_of, kept_params, EventFits}
use Rattle.block_runs.specs.BlockRuns.{Go, given_then, method_called, run_items, run_end, fall_at, fall, behind, at_block, run_blocks, recursing}
use Rattle.block_runs.specs.EventStep.{Part, Gave, Failed, Asks, Wants, waiting, has_room, kept, kept_if, kept_at, names_it, lasts, resumed, event, ref_of, Step, target_of, caught, thrown, frame, site, finish, finished, from, go_on, catch, awaited_by, caught_by, resume, step_of}
use Rattle.block_runs.specs.StepFits.{HeldFits, IsThere}
use Rattle.block_runs.proofs.Variables.{Supplied}
use Rattle.block_runs.proofs.Parts.{catch_found}
use Rattle.assigned_locals.specs.AssignedLocals.{AgreeOnAssigned}
use Rattle.request_events.specs.RequestEvents as requests
use Rattle.request_events.specs.RequestEvents.{Handles}
use Rattle.request_events.proofs.Agreeing.{Same, start_agrees, supplied_agree, given_agree, narrowed_agree, result_agrees, caught_agrees}
use Rattle.request_events.proofs.Handling.{only_read, lasts_pushed, resumed_pushed, Reaches, reaches_same, reaches_then, reaches_by, handled, back, ComesBack, caught_last, caught_before}
use Rattle.request_events.proofs.Alike.{GivesSo, so_anyway, light_receiver, value_alike, args_alike, parts_alike, ItemsMet, all_go, one_returns, one_breaks, one_continues, one_fails, items_met}
use Rattle.request_events.proofs.Fitting.{reading_twice, IsHere, call_back, make_back, call_fits, make_fits, here_behind_call, here_behind_make, left_fits, step_fits, world_fits}

-- the record that a part leaves
abbrev pub held_of : Part → Held
held_of (Gave v h n) = h
held_of (Failed f h n) = h
held_of (Asks at method args number vars h n) = h
held_of (Wants class args number vars h n) = h

module _ (names : List (List ℕ)) (program : PlainProgram) (accepted : IsKnownAccepted names program) (graph : List (List PlainBlock)) (fits : GraphFits names program graph) (tx : ℕ) where
  abbrev src : Source
  src = record { program = program; names = names }

  abbrev tables : List PlainTable
  tables = tables_of names program

  abbrev Fits : Event → Type 0
  Fits e = EventFits tables graph e

  abbrev Back : List Frame → World → Event → Gives World Value → Type 0
  Back = ComesBack src tables graph tx

  -- what calls and creations come to, where so many may still be open and these frames wait
  pub record Takes (d : ℕ) (fs : List Frame) : Type 0 where
    pub stops : (at : Key) (method : ℕ) (args : List Value) (w : World) → (calls_at src d).call at method args w 0 ≡ Fell step_limit w 0
    pub full : has_room fs ≡ false → (at : Key) (method : ℕ) (args : List Value) (w : World) (n : ℕ) → (calls_at src d).call at method args w (suc n) ≡ Fell recursion_error w n
    pub takes : has_room fs ≡ true → (f : Frame) (at : Key) → weight_of (entity at) ≤ 65536 → (method : ℕ) (args : List Value) (w : World) (n : ℕ) → Fits (event tx n (fs ++ f ∷ []) (kind.Enter (ref_of at) method args)) → StateFits tables w.state
        → Back (fs ++ f ∷ []) w (event tx n (fs ++ f ∷ []) (kind.Enter (ref_of at) method args)) ((calls_at src d).call at method args w (suc n))
    pub makes_stop : (class : ℕ) (args : List Value) (w : World) → (calls_at src d).make class args w 0 ≡ Fell step_limit w 0
    pub makes_full : has_room fs ≡ false → (class : ℕ) (args : List Value) (w : World) (n : ℕ) → (calls_at src d).make class args w (suc n) ≡ Fell recursion_error w n
    pub makes : has_room fs ≡ true → (f : Frame) (class : ℕ) (args : List Value) (w : World) (n : ℕ) → Fits (event tx n (fs ++ f ∷ []) (kind.Make (ref_of (new_key src class args)) args)) → StateFits tables w.state
        → Back (fs ++ f ∷ []) w (event tx n (fs ++ f ∷ []) (kind.Make (ref_of (new_key src class args)) args)) ((calls_at src d).make class args w (suc n))

  module _ (d : ℕ) (fs : List Frame) (takes : Takes d fs) (deep : d ≡ 63 - length fs) (at : Ref) (method : ℕ) (leaves : Leaving) (within : KeepsWithin src at.class leaves) (variables : List PlainVar)
      (each : All (BlockFits (in_method tables at.class method) leaves variables (blocks_of tables graph at.class method)) (blocks_of tables graph at.class method)) where
    abbrev me : Key
    me = key_of at

    abbrev blocks : List PlainBlock
    blocks = blocks_of tables graph at.class method

    abbrev c : Context
    c = in_method tables at.class method

    abbrev whole : Site World
    whole = in_state src (calls_at src d) me

    abbrev one : Site Held
    one = site src tables graph at fs

    abbrev go_whole : ℕ → ℕ → Go World (Gives World Value)
    go_whole fuel = run_blocks whole (recursing whole) blocks fuel

    abbrev go_one : ℕ → ℕ → Go Held Part
    go_one fuel = run_blocks one (waiting (has_room fs)) blocks fuel

    abbrev finished_by : Part → Step
    finished_by = finish src tables graph at method tx fs

    -- a part of the method leaves what fits
    abbrev Fine : Part → Type 0
    Fine p = RecordFits tables at.class (held_of p).fields × Fits (finished_by p).next

    -- it comes to a part, and where that leaves what fits, the events behind it lead to the result of the method
    pub record Meets (start : World) (o : Option Part) (g : Gives World Value) : Type 0 where
      pub part : Part
      pub is : o ≡ Some part
      pub holds : map.get (left_by me start (held_of part)).state me ≡ Some (held_of part).fields
      pub comes : Fine part → Reaches src tables graph (left_by me start (held_of part)) (finished_by part).next (world_in g) (back src tables graph tx fs g)

    -- from each block with this fuel
    abbrev pub Good : ℕ → Type 0
    Good fuel = (number : ℕ) (b : PlainBlock) (us vs : List Var) (start w : World) (h : Held) (n : ℕ) (g : Gives World Value) → slice_get blocks number ≡ Some b → Same b.params us vs → StateFits tables start.state → IsSeen me start w h
        → go_whole fuel number us w n ≡ Some g → Meets start (go_one fuel number vs h n) g

    behind_held : (w : World) (h : Held) (next : Event) → map.get (left_by me (reading w me) h).state me ≡ Some h.fields → requests.behind w me (record { held = Some h.fields; wrote = h.wrote; next = next }) ≡ left_by me (reading w me) h
    behind_held w h next holds = by h.wrote refl
      where
        by : (wrote : Bool) → h.wrote ≡ wrote → requests.behind w me (record { held = Some h.fields; wrote = h.wrote; next = next }) ≡ left_by me (reading w me) h
        by true wrote = ap (λ r. requests.behind w me (record { held = Some h.fields; wrote = r; next = next })) wrote ∙ sym (ap (λ r. left_by me (reading w me) (record { fields = h.fields; wrote = r })) wrote)
        by false wrote =
            ap (λ r. requests.behind w me (record { held = Some h.fields; wrote = r; next = next })) wrote
            ∙ only_read w me h.fields next (subst (λ r. map.get (left_by me (reading w me) (record { fields = h.fields; wrote = r })).state me ≡ Some h.fields) wrote holds)
            ∙ sym (ap (λ r. left_by me (reading w me) (record { fields = h.fields; wrote = r })) wrote)

    behind_part : (w : World) (p : Part) → map.get (left_by me (reading w me) (held_of p)).state me ≡ Some (held_of p).fields → requests.behind w me (finished_by p) ≡ left_by me (reading w me) (held_of p)
    behind_part w (Gave v h n) holds = behind_held w h (finished_by (Gave v h n)).next holds
    behind_part w (Failed f h n) holds = behind_held w h (finished_by (Failed f h n)).next holds
    behind_part w (Asks to called args number vars h n) holds = behind_held w h (finished_by (Asks to called args number vars h n)).next holds
    behind_part w (Wants class args number vars h n) holds = behind_held w h (finished_by (Wants class args number vars h n)).next holds

    held_fine : (p : Part) → HeldFits tables at.class (finished_by p).held → RecordFits tables at.class (held_of p).fields
    held_fine (Gave v h n) f = f
    held_fine (Failed f h n) r = r
    held_fine (Asks to called args number vars h n) f = f
    held_fine (Wants class args number vars h n) f = f

    -- an event that goes on at a block of the method
    pub goes_on_at : (fuel : ℕ) → Good fuel → (w start : World) → reading w me ≡ start → (e : Event) (fields : List Value) (to : ℕ) (target : PlainBlock) (us vs : List Var) (g : Gives World Value) → slice_get blocks to ≡ Some target → Same target.params us vs
        → map.get w.state me ≡ Some fields → StateFits tables w.state → Fits e → target_of e.kind (lasts e.frames) ≡ Some at → IsThere e.kind (Some fields)
        → step_of src tables graph fuel e.kind e.tx e.frames e.steps (Some fields) ≡ from src tables graph fuel at method tx fs to vs fields e.steps → go_whole fuel to us start e.steps ≡ Some g → Back fs w e g
    goes_on_at fuel good w start read e fields to target us vs g is same there state e_fits is_target is_there is_from ran =
        let h : Held = record { fields = fields; wrote = false } in
        let seen : IsSeen me start start h = record { left = refl; there = subst (λ (v : World). map.get v.state me ≡ Some fields) read there; read = subst (λ (v : World). reading v me ≡ v) read (reading_twice w me) } in
        let m : Meets start (go_one fuel to vs h e.steps) g = good to target us vs start start h e.steps g is same (subst (λ (v : World). StateFits tables v.state) read state) seen ran in
        let stepped : step_of src tables graph fuel e.kind e.tx e.frames e.steps (Some fields) ≡ Some (finished_by m.part) = is_from ∙ ap (finished src tables graph at method tx fs) m.is in
        let f : HeldFits tables at.class (finished_by m.part).held × Fits (finished_by m.part).next =
        step_fits names program accepted graph fits e (Some fields) (record { fits = e_fits; target = at; is_target = is_target; held_fits = state.each me fields there; there = is_there }) (finished_by m.part) (record { fuel = fuel; by = stepped }) in
        reaches_by src tables graph w e (requests.behind w me (finished_by m.part)) (finished_by m.part).next _ _ (handled src tables graph w e at (Some fields) fuel (finished_by m.part) is_target there stepped)
        (subst (λ v. Reaches src tables graph v (finished_by m.part).next (world_in g) (back src tables graph tx fs g)) (sym (behind_part w m.part (subst (λ (v : World). map.get (left_by me v (held_of m.part)).state me ≡ Some (held_of m.part).fields) (sym read) m.holds) ∙ ap (λ v. left_by me v (held_of m.part)) read)) (m.comes (held_fine m.part f.0, f.1)))

    -- Failures

    -- locals at a point of a block, where what is supplied agrees
    abbrev AtPoint : PlainBlock → List Var → List Var → Type 0
    AtPoint b us vs = (params : List PlainVar) → AtEachItem (Supplied params) c b.code (at_start variables b.params) → Same params us vs

    record CaughtAt (b : PlainBlock) (to : ℕ) : Type 0 where
      place : ℕ
      by : PlainCatch
      is : slice_get b.catches place ≡ Some by
      goes : by.to ≡ to
      fit : CatchFits c blocks b (at_start variables b.params) by

    block_fits : (number : ℕ) (b : PlainBlock) → slice_get blocks number ≡ Some b → BlockFits c leaves variables blocks b
    block_fits number b is = all_at (BlockFits c leaves variables blocks) blocks number b each is

    caught_at : (number : ℕ) (b : PlainBlock) (x to : ℕ) → slice_get blocks number ≡ Some b → catch_of b.catches x ≡ Some to → CaughtAt b to
    caught_at number b x to is found =
        let k : (j : ℕ) × (by : PlainCatch) × (slice_get b.catches j ≡ Some by) × (by.to ≡ to) = catch_found b.catches x to found in
        record { place = k.0; by = k.1; is = k.2; goes = k.3; fit = all_at (CatchFits c blocks b (at_start variables b.params)) b.catches k.0 k.1 (block_fits number b is).catches k.2 }

    caught_block : (b : PlainBlock) (to : ℕ) (k : CaughtAt b to) → slice_get blocks to ≡ Some k.fit.target
    caught_block b to k = subst (λ i. slice_get blocks i ≡ Some k.fit.target) k.goes k.fit.is

    held_there : (start w : World) (h k : Held) → IsSeen me start w h → h ≡ k → map.get (left_by me start k).state me ≡ Some k.fields
    held_there start w h k seen is = subst (λ (j : Held). map.get (left_by me start j).state me ≡ Some j.fields) is (subst (λ (v : World). map.get v.state me ≡ Some h.fields) seen.left seen.there)

    ends_same : (start w : World) (h : Held) (p : Part) (x g : Gives World Value) → IsSeen me start w h → h ≡ held_of p → world_in x ≡ w → (finished_by p).next ≡ back src tables graph tx fs x → Some x ≡ Some g → Meets start (Some p) g
    ends_same start w h p x g seen is_held is_world is_event e = record {
      part = p;
      is = refl;
      holds = held_there start w h (held_of p) seen is_held;
      comes = λ f. subst (λ g. Reaches src tables graph (left_by me start (held_of p)) (finished_by p).next (world_in g) (back src tables graph tx fs g)) (same_Some _ _ e)
          (reaches_same src tables graph _ _ _ _ (is_world ∙ seen.left ∙ ap (left_by me start) is_held) (sym is_event));
    }

    fall_good : (fuel : ℕ) → Good fuel → (number : ℕ) (b : PlainBlock) (x : Failure) (us vs : List Var) (start w : World) (h : Held) (n : ℕ) (g : Gives World Value) → slice_get blocks number ≡ Some b → AtPoint b us vs → StateFits tables start.state → IsSeen me start w h
        → fall (recursing whole) b.catches (go_whole fuel) x us w n ≡ Some g → Meets start (fall (waiting (has_room fs)) b.catches (go_one fuel) x vs h n) g
    fall_good fuel good number b x us vs start w h n g is point state seen e = by (catch_of b.catches x.kind) refl e
      where
        by : (o : Option ℕ) → catch_of b.catches x.kind ≡ o → fall_at (recursing whole) o (go_whole fuel) x us w n ≡ Some g → Meets start (fall_at (waiting (has_room fs)) o (go_one fuel) x vs h n) g
        by None none e = ends_same start w h (Failed x h n) (Fell x w n) g seen refl refl refl e
        by (Some to) some e =
            let k : CaughtAt b to = caught_at number b x.kind to is some in
            good to k.fit.target us vs start w h n g (caught_block b to k) (point k.fit.target.params k.fit.always) state seen e

    -- Calls and creations

    -- what is behind a call, for whose result this frame waits
    record Behind (fr : Frame) (a : Gives World Value) : Type 0 where
      here : IsHere me (world_in a)
      state : StateFits tables (world_in a).state
      event_fits : Fits (back src tables graph tx (fs ++ fr ∷ []) a)

    frame_vars : (number : ℕ) (b : PlainBlock) (for : Awaits) (vs : List Var) → slice_get blocks number ≡ Some b → awaited b.end ≡ Some for → kept (kept_params blocks b for) vs ≡ kept_at blocks (slice_get blocks number) vs
    frame_vars number b for vs is awaits = sym (ap (λ o. kept_at blocks o vs) is ∙ ap (λ o. kept_if blocks b o vs) awaits)

    abbrev waits_at : ℕ → List Var → Frame
    waits_at number vs = frame src tables graph at method number vs

    received : (fuel : ℕ) → Good fuel → (number : ℕ) (b : PlainBlock) (for : Awaits) (us vs : List Var) (target : PlainBlock) → slice_get blocks number ≡ Some b → awaited b.end ≡ Some for → AtPoint b us vs → slice_get blocks for.after ≡ Some target
        → ((v : Value) → Same target.params (assigned us for.into v) (assigned vs for.into v)) → (a : Gives World Value) → Behind (waits_at number vs) a → (g : Gives World Value)
        → given_then us a (fall (recursing whole) b.catches (go_whole fuel)) (λ v w n. go_whole fuel for.after (assigned us for.into v) w n) ≡ Some g
        → Reaches src tables graph (world_in a) (back src tables graph tx (fs ++ waits_at number vs ∷ []) a) (world_in g) (back src tables graph tx fs g)
    received fuel good number b for us vs target is awaits point there same (Got v w n) after g e =
        let fr : Frame = waits_at number vs in
        let k : resumed (fs ++ fr ∷ []) (outcome.Value v) ≡ kind.Resume (outcome.Value v) = resumed_pushed fs fr (outcome.Value v) in
        subst (λ k. Back fs w (event tx n (fs ++ fr ∷ []) k) g) (sym k)
        (goes_on_at fuel good w w after.here.read (event tx n (fs ++ fr ∷ []) (kind.Resume (outcome.Value v))) after.here.fields for.after target (assigned us for.into v) (assigned fr.vars for.into v) g there
        (subst (λ ks. Same target.params (assigned us for.into v) (assigned ks for.into v)) (frame_vars number b for vs is awaits) (result_agrees blocks b for target there v us vs (same v)))
        after.here.there after.state (subst (λ k. Fits (event tx n (fs ++ fr ∷ []) k)) k after.event_fits) (ap (target_of (kind.Resume (outcome.Value v))) (lasts_pushed fs fr)) tt
        (ap (λ l. resume src tables graph fuel (outcome.Value v) tx l n (Some after.here.fields)) (lasts_pushed fs fr)
        ∙ ap (λ o. go_on src tables graph fuel o v tx (record { before = fs; last = fr }) after.here.fields n) (ap (awaited_by src tables graph) is ∙ awaits)) e)
    received fuel good number b for us vs target is awaits point there same (Fell x w n) after g e = by (catch_of b.catches x.kind) refl e
      where
        fr : Frame
        fr = waits_at number vs

        by : (o : Option ℕ) → catch_of b.catches x.kind ≡ o → fall_at (recursing whole) o (go_whole fuel) x us w n ≡ Some g
            → Reaches src tables graph w (thrown src tables graph tx (fs ++ waits_at number vs ∷ []) x n) (world_in g) (back src tables graph tx fs g)
        by None none e =
            let left : caught src tables graph (fs ++ fr ∷ []) x ≡ caught src tables graph fs x = caught_before src tables graph fs fr x (ap (λ o. names_it o x) is ∙ ap is_some none) in
            subst (λ g. Reaches src tables graph w (thrown src tables graph tx (fs ++ fr ∷ []) x n) (world_in g) (back src tables graph tx fs g)) (same_Some _ _ e)
            (reaches_same src tables graph _ _ _ _ refl (sym (ap (λ c. event tx n c (resumed c (outcome.Failed x))) left)))
        by (Some to) some e =
            let k : CaughtAt b to = caught_at number b x.kind to is some in
            let all : caught src tables graph (fs ++ fr ∷ []) x ≡ fs ++ fr ∷ [] = caught_last src tables graph fs fr x (ap (λ o. names_it o x) is ∙ ap is_some some) in
            let thrown_is : thrown src tables graph tx (fs ++ fr ∷ []) x n ≡ event tx n (fs ++ fr ∷ []) (kind.Resume (outcome.Failed x)) = ap (λ c. event tx n c (resumed c (outcome.Failed x))) all ∙ ap (event tx n (fs ++ fr ∷ [])) (resumed_pushed fs fr (outcome.Failed x)) in
            subst (λ d. Back fs w d g) (sym thrown_is)
            (goes_on_at fuel good w w after.here.read (event tx n (fs ++ fr ∷ []) (kind.Resume (outcome.Failed x))) after.here.fields to k.fit.target us fr.vars g (caught_block b to k)
            (subst (λ ks. Same k.fit.target.params us ks) (frame_vars number b for vs is awaits) (caught_agrees blocks b for k.place k.by k.fit.target k.is k.fit.is us vs (point k.fit.target.params k.fit.always)))
            after.here.there after.state (subst Fits thrown_is after.event_fits) (ap (target_of (kind.Resume (outcome.Failed x))) (lasts_pushed fs fr)) tt
            (ap (λ l. resume src tables graph fuel (outcome.Failed x) tx l n (Some after.here.fields)) (lasts_pushed fs fr)
            ∙ ap (λ o. catch src tables graph fuel o tx (record { before = fs; last = fr }) after.here.fields n) (ap (λ o. caught_by src tables graph o x) is ∙ some)) e)

    -- what a call or a creation comes to in this world, for whose result this frame waits, with so many steps, and its event
    record Taken (w : World) (fr : Frame) (call : ℕ → Gives World Value) (ev : ℕ → Event) : Type 0 where
      none : call 0 ≡ Fell step_limit w 0
      full : has_room fs ≡ false → (n : ℕ) → call (suc n) ≡ Fell recursion_error w n
      comes : has_room fs ≡ true → (n : ℕ) → Fits (ev n) → StateFits tables w.state → Back (fs ++ fr ∷ []) w (ev n) (call (suc n))
      behind_it : (n : ℕ) → Fits (ev n) → StateFits tables w.state → IsHere me w → Behind fr (call (suc n))

    leave_good : (fuel : ℕ) → Good fuel → (number : ℕ) (b : PlainBlock) (for : Awaits) (us vs : List Var) (target : PlainBlock) → slice_get blocks number ≡ Some b → awaited b.end ≡ Some for → AtPoint b us vs → slice_get blocks for.after ≡ Some target
        → ((v : Value) → Same target.params (assigned us for.into v) (assigned vs for.into v)) → (start w : World) (h : Held) → StateFits tables start.state → IsSeen me start w h → (call : ℕ → Gives World Value) (q : ℕ → Part) (ev : ℕ → Event) → Taken w (waits_at number vs) call ev
        → ((n : ℕ) → held_of (q n) ≡ h) → ((n : ℕ) → (finished_by (q n)).next ≡ ev n) → (r : Bool) → has_room fs ≡ r → (n : ℕ) (g : Gives World Value)
        → given_then us (call n) (fall (recursing whole) b.catches (go_whole fuel)) (λ v w n. go_whole fuel for.after (assigned us for.into v) w n) ≡ Some g
        → Meets start (step n (fall (waiting (has_room fs)) b.catches (go_one fuel) step_limit vs h n) (λ n. if r then Some (q n) else fall (waiting (has_room fs)) b.catches (go_one fuel) recursion_error vs h n)) g
    leave_good fuel good number b for us vs target is awaits point there same start w h state seen call q ev t held_is ev_is r room zero g e =
        fall_good fuel good number b step_limit us vs start w h 0 g is point state seen (ap (λ a. given_then us a (fall (recursing whole) b.catches (go_whole fuel)) (λ v w n. go_whole fuel for.after (assigned us for.into v) w n)) (sym t.none) ∙ e)
    leave_good fuel good number b for us vs target is awaits point there same start w h state seen call q ev t held_is ev_is false room (suc n) g e =
        fall_good fuel good number b recursion_error us vs start w h n g is point state seen (ap (λ a. given_then us a (fall (recursing whole) b.catches (go_whole fuel)) (λ v w n. go_whole fuel for.after (assigned us for.into v) w n)) (sym (t.full room n)) ∙ e)
    leave_good fuel good number b for us vs target is awaits point there same start w h state seen call q ev t held_is ev_is true room (suc n) g e = record {
      part = q n;
      is = refl;
      holds = held_there start w h (held_of (q n)) seen (sym (held_is n));
      comes = λ f.
          let asked : Fits (ev n) = subst Fits (ev_is n) f.1 in
          let now : StateFits tables w.state = subst (λ (v : World). StateFits tables v.state) (sym seen.left) (left_fits names program accepted me start h state (subst (λ (k : Held). RecordFits tables at.class k.fields) (held_is n) f.0)) in
          reaches_then src tables graph _ _ w (ev n) _ _ (reaches_same src tables graph _ _ _ _ (seen.left ∙ ap (left_by me start) (sym (held_is n))) (sym (ev_is n)))
          (reaches_then src tables graph _ _ _ _ _ _ (t.comes room n asked now)
          (received fuel good number b for us vs target is awaits point there same (call (suc n)) (t.behind_it n asked now (record { fields = h.fields; there = seen.there; read = seen.read })) g e));
    }

    call_taken : (w : World) (fr : Frame) (to : Key) → weight_of (entity to) ≤ 65536 → (called : ℕ) (args : List Value) → Taken w fr ((calls_at src d).call to called args w) (λ n. event tx n (fs ++ fr ∷ []) (kind.Enter (ref_of to) called args))
    call_taken w fr to light called args = record {
      none = takes.stops to called args w;
      full = λ room n. takes.full room to called args w n;
      comes = λ room n f now. takes.takes room fr to light called args w n f now;
      behind_it = λ n f now here. record {
        here = here_behind_call names program accepted d me to called args w (suc n) now f.kind.0 here;
        state = (world_fits tables w.state _ _ (call_fits names program accepted d to called args w (suc n) now f.kind.0)).fits;
        event_fits = call_back tables graph src tx (fs ++ fr ∷ []) to.0 called w.state _ f.frames f.kind.1 (call_fits names program accepted d to called args w (suc n) now f.kind.0);
      };
    }

    make_taken : (w : World) (fr : Frame) (class : ℕ) (args : List Value) → Taken w fr ((calls_at src d).make class args w) (λ n. event tx n (fs ++ fr ∷ []) (kind.Make (ref_of (new_key src class args)) args))
    make_taken w fr class args = record {
      none = takes.makes_stop class args w;
      full = λ room n. takes.makes_full room class args w n;
      comes = λ room n f now. takes.makes room fr class args w n f now;
      behind_it = λ n f now here. record {
        here = here_behind_make names program accepted d me class args w (suc n) now f.kind.0 here;
        state = (world_fits tables w.state _ _ (make_fits names program accepted d class args w (suc n) now f.kind.0)).fits;
        event_fits = make_back tables graph src tx (fs ++ fr ∷ []) class w.state _ f.frames f.kind.1 (make_fits names program accepted d class args w (suc n) now f.kind.0);
      };
    }

    -- Blocks

    given_good : {A : Type 0} (fuel : ℕ) → Good fuel → (number : ℕ) (b : PlainBlock) (us vs : List Var) (start : World) → slice_get blocks number ≡ Some b → AtPoint b us vs → StateFits tables start.state → (a : Gives World A) (k : Gives Held A) → GivesAlike me start a k → (P : A → Type 0) → GivesSo P a
        → (f : A → World → ℕ → Option (Gives World Value)) (l : A → Held → ℕ → Option Part) (g : Gives World Value) → ((x : A) → P x → (w : World) (h : Held) (n : ℕ) → IsSeen me start w h → f x w n ≡ Some g → Meets start (l x h n) g)
        → given_then us a (fall (recursing whole) b.catches (go_whole fuel)) f ≡ Some g → Meets start (given_then vs k (fall (waiting (has_room fs)) b.catches (go_one fuel)) l) g
    given_good fuel good number b us vs start is point state _ _ (got {x = x} {w = w} {h = h} {n = n} seen) P so f l g rest e = rest x so w h n seen e
    given_good fuel good number b us vs start is point state _ _ (fell {f = x} {w = w} {h = h} {n = n} seen) P so f l g rest e = fall_good fuel good number b x us vs start w h n g is point state seen e

    leads_good : (fuel : ℕ) → Good fuel → (to : ℕ) (locals : List PlainLocal) (us vs : List Var) (start w : World) (h : Held) (n : ℕ) (g : Gives World Value) → Leads blocks to locals → AgreeOnAssigned locals us vs → StateFits tables start.state → IsSeen me start w h
        → go_whole fuel to us w n ≡ Some g → Meets start (go_one fuel to vs h n) g
    leads_good fuel good to locals us vs start w h n g f agree state seen e = good to f.target us vs start w h n g f.is (supplied_agree locals f.target.params us vs agree f.enough) state seen e

    end_good : (fuel : ℕ) → Good fuel → (number : ℕ) (b : PlainBlock) (end : PlainEnd) (locals : List PlainLocal) (us vs : List Var) (start w : World) (h : Held) (n : ℕ) (g : Gives World Value) → slice_get blocks number ≡ Some b → b.end ≡ end → EndFits c leaves blocks end locals
        → AgreeOnAssigned locals us vs → AtPoint b us vs → StateFits tables start.state → IsSeen me start w h → run_end whole (recursing whole) number (go_whole fuel) (fall (recursing whole) b.catches (go_whole fuel)) end us w n ≡ Some g
        → Meets start (run_end one (waiting (has_room fs)) number (go_one fuel) (fall (waiting (has_room fs)) b.catches (go_one fuel)) end vs h n) g
    unfolding run_end
    end_good fuel good number b (EJump to) locals us vs start w h n g is is_end f agree point state seen e = leads_good fuel good to locals us vs start w h n g f agree state seen e
    end_good fuel good number b (EBranch test holds other) locals us vs start w h n g is is_end f agree point state seen e =
        given_good fuel good number b us vs start is point state _ _ (value_alike src tables me leaves within d (63 - length fs) deep method start locals test TBool us vs w h n f.0 agree seen) (λ v. Unit {0}) (so_anyway (eval whole test us w n)) _ _ g (λ v so w h n seen e. by (is_true v) w h n seen e) e
      where
        by : (t : Bool) (w : World) (h : Held) (n : ℕ) → IsSeen me start w h → (if t then go_whole fuel holds us w n else go_whole fuel other us w n) ≡ Some g → Meets start (if t then go_one fuel holds vs h n else go_one fuel other vs h n) g
        by true w h n seen e = leads_good fuel good holds (narrowed (shown true test) locals) us vs start w h n g f.1 (narrowed_agree (shown true test) locals us vs agree) state seen e
        by false w h n seen e = leads_good fuel good other (narrowed (shown false test) locals) us vs start w h n g f.2 (narrowed_agree (shown false test) locals us vs agree) state seen e
    end_good fuel good number b ELeave locals us vs start w h n g is is_end f agree point state seen e = ends_same start w h (Gave value.Nil h n) (Got value.Nil w n) g seen refl refl refl e
    end_good fuel good number b (ECall on class called args into to) locals us vs start w h n g is is_end f agree point state seen e =
        given_good fuel good number b us vs start is point state _ _ (parts_alike src tables me leaves within d (63 - length fs) deep method start locals on (TEntity f.table.name) args f.sig.params us vs w h n f.receiver f.args_fit agree seen) (λ (q : Value × List Value). weight_of (entity (key_in q.0)) ≤ 65536) (light_receiver whole (calls_are_light src d) on args us w n) _ _ g (λ q light w h n seen e.
        leave_good fuel good number b (record { into = into; after = to }) us vs f.takes.goes.target is (ap awaited is_end) point f.takes.goes.is
        (λ v. supplied_agree (with_local into f.sig.result f.sig.result locals) f.takes.goes.target.params _ _ (given_agree into f.sig.result v locals us vs f.takes.local f.takes.is agree) f.takes.goes.enough) start w h state seen
        ((calls_at src d).call (key_in q.0) (method_called src (key_in q.0).0 class called) q.1 w) (λ n. Asks (key_in q.0) (method_called src (key_in q.0).0 class called) q.1 number vs h n) _
        (call_taken w (waits_at number vs) (key_in q.0) light (method_called src (key_in q.0).0 class called) q.1) (λ n. refl) (λ n. refl) (has_room fs) refl n g e) e
    end_good fuel good number b (EMake class args into to) locals us vs start w h n g is is_end f agree point state seen e =
        given_good fuel good number b us vs start is point state _ _ (args_alike src tables me leaves within d (63 - length fs) deep method start locals args f.table.init us vs w h n f.args_fit agree seen) (λ q. Unit {0}) (so_anyway (eval_all whole args [] us w n)) _ _ g (λ q so w h n seen e.
        leave_good fuel good number b (record { into = into; after = to }) us vs f.takes.goes.target is (ap awaited is_end) point f.takes.goes.is
        (λ v. supplied_agree (with_local into (TEntity f.table.name) (TEntity f.table.name) locals) f.takes.goes.target.params _ _ (given_agree into (TEntity f.table.name) v locals us vs f.takes.local f.takes.is agree) f.takes.goes.enough) start w h state seen
        ((calls_at src d).make class q w) (λ n. Wants class q number vs h n) _ (make_taken w (waits_at number vs) class q) (λ n. refl) (λ n. refl) (has_room fs) refl n g e) e

    abbrev block_whole : ℕ → ℕ → PlainBlock → Go World (Gives World Value)
    block_whole fuel number b vars w n =
        behind (recursing whole) (run_items whole b.code vars w n) (run_end whole (recursing whole) number (go_whole fuel) (fall (recursing whole) b.catches (go_whole fuel)) b.end) (fall (recursing whole) b.catches (go_whole fuel))

    abbrev block_one : ℕ → ℕ → PlainBlock → Go Held Part
    block_one fuel number b vars h n =
        behind (waiting (has_room fs)) (run_items one b.code vars h n) (run_end one (waiting (has_room fs)) number (go_one fuel) (fall (waiting (has_room fs)) b.catches (go_one fuel)) b.end) (fall (waiting (has_room fs)) b.catches (go_one fuel))

    items_good : (fuel : ℕ) → Good fuel → (number : ℕ) (b : PlainBlock) (start : World) (g : Gives World Value) → slice_get blocks number ≡ Some b → StateFits tables start.state → (x : Ends World) (y : Ends Held)
        → ItemsMet src tables me leaves within d (63 - length fs) deep method start b.code (at_start variables b.params) (EndFits c leaves blocks b.end) x y
        → behind (recursing whole) x (run_end whole (recursing whole) number (go_whole fuel) (fall (recursing whole) b.catches (go_whole fuel)) b.end) (fall (recursing whole) b.catches (go_whole fuel)) ≡ Some g
        → Meets start (behind (waiting (has_room fs)) y (run_end one (waiting (has_room fs)) number (go_one fuel) (fall (waiting (has_room fs)) b.catches (go_one fuel)) b.end) (fall (waiting (has_room fs)) b.catches (go_one fuel))) g
    items_good fuel good number b start g is state _ _ (all_go {us = us} {vs = vs} {w = w} {h = h} {n = n} after f agree seen point) e =
        end_good fuel good number b b.end after us vs start w h n g is refl f agree (λ params p. supplied_agree after params us vs agree (point params p)) state seen e
    items_good fuel good number b start g is state _ _ (one_returns {v = v} {w = w} {h = h} {n = n} seen) e = ends_same start w h (Gave v h n) (Got v w n) g seen refl refl refl e
    items_good fuel good number b start g is state _ _ one_breaks e = absurd (none-some g e)
    items_good fuel good number b start g is state _ _ one_continues e = absurd (none-some g e)
    items_good fuel good number b start g is state _ _ (one_fails {f = x} {us = us} {vs = vs} {w = w} {h = h} {n = n} seen same) e = fall_good fuel good number b x us vs start w h n g is same state seen e

    block_good : (fuel : ℕ) → Good fuel → (number : ℕ) (b : PlainBlock) (us vs : List Var) (start w : World) (h : Held) (n : ℕ) (g : Gives World Value) → slice_get blocks number ≡ Some b → Same b.params us vs → StateFits tables start.state → IsSeen me start w h
        → block_whole fuel number b us w n ≡ Some g → Meets start (block_one fuel number b vs h n) g
    block_good fuel good number b us vs start w h n g is same state seen e =
        items_good fuel good number b start g is state (run_items whole b.code us w n) (run_items one b.code vs h n)
        (items_met src tables me leaves within d (63 - length fs) deep method start b.code (at_start variables b.params) (EndFits c leaves blocks b.end) us vs w h n (block_fits number b is).fits (start_agrees variables b.params us vs same) seen) e

    pub all_good : (fuel : ℕ) → Good fuel
    unfolding run_blocks
    all_good zero number b us vs start w h n g is same state seen e = absurd (none-some g e)
    all_good (suc fuel) number b us vs start w h n g is same state seen e =
        subst (λ o. Meets start (at_block o (block_one fuel number) vs h n) g) (sym is)
        (block_good fuel (all_good fuel) number b us vs start w h n g is same state seen (ap (λ o. at_block o (block_whole fuel number) us w n) (sym is) ∙ e))
