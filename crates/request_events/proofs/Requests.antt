-- The events of one request end as the source's run of it.
use Rattle.std.proofs.Common.{◌≡◌, ◌≤◌, ◌∙◌, ℕ, zero, suc, arith, ◌+◌, ◌-◌, Bool, true, false, true≢false, Option, Some, None, List, [], ◌∷◌, ◌++◌, length, length-append, if◌then◌else◌, refl, sym, subst}
use Rattle.std.specs.Prelude.{slice_get}
use Rattle.std.specs.FinMap as map
use Rattle.std.specs.Prelude.{nat_lt, ◌||◌}
use Rattle.std.specs.Str.{encode_utf8_all}
use Rattle.std.proofs.lemmas.Bool.{lt-ltb, le-ltb, ltb-false}
use Rattle.sf_value.specs.Weight.{weight_of}
use Rattle.program_meaning.specs.Evaluation.{entity}
use Rattle.py_tree.specs.PlainProgram.{PlainProgram}
use Rattle.py_tree.specs.ClassRules.{PlainTable, params_of, tables_of}
use Rattle.call_graph.specs.SuspendingCode.{leaving}
use Rattle.sf_value.specs.Keys.{Key}
use Rattle.sf_value.specs.declared.value.Value.{Value}
use Rattle.sf_value.specs.declared.Act.{Act}
use Rattle.sf_value.specs.declared.Act.TheVariants as act
use Rattle.sf_value.specs.declared.Outcome.TheVariants as outcome
use Rattle.program_meaning.specs.ClassTables.{Source, methods_of}
use Rattle.program_meaning.specs.World.{State, World, Gives, Got, Fell, no_entity, already_exists, size_limit, reading}
use Rattle.program_meaning.specs.Calls.{in_state, calls_at, enter, create, made, made_record, new_key, run_body, bound, if_there}
use Rattle.program_meaning.specs.Fits.{StateFits, ActFits}
use Rattle.program_meaning.specs.RequestRun.{Ran, steps_at_first, at_first, begin, ended, refused, is_too_heavy, run}
use Rattle.program_meaning.specs.NothingGoesWrong.{IsKnownAccepted}
use Rattle.program_meaning.specs.HereInState.{KeepsWithin}
use Rattle.program_meaning.proofs.HereLaws.{world_in}
use Rattle.quiet_methods.proofs.QuietMethods.{marks_keep_within}
use Rattle.block_code.specs.declared.event.Frame.{Frame}
use Rattle.block_code.specs.declared.event.Event.{Event}
use Rattle.block_code.specs.declared.event.EventKind.TheVariants as kind
use Rattle.block_code.specs.PlainBlocks.{PlainBlock}
use Rattle.block_code.specs.Places.{blocks_of}
use Rattle.block_code.specs.GraphFits.{GraphFits, MethodFits}
use Rattle.block_code.specs.EventsFit.{FramesFit, EventFits}
use Rattle.block_runs.specs.BlockRuns.{run_blocks, recursing, ComesTo}
use Rattle.block_runs.specs.EventStep.{has_room, up_to, event, ref_of, created, thrown}
use Rattle.program_meaning.proofs.NamesApart.{IsMethod, method_is}
use Rattle.request_events.specs.RequestEvents.{steps_behind_first, asked_for, first_event, Handles, behind, ended_as}
use Rattle.request_events.specs.GraphMeans.{EndsAsRun, MethodsMean, EventsMeanTheirSource}
use Rattle.request_events.proofs.Handling.{only_read, Reaches, reaches_same, reaches_by, handled, back, ComesBack}
use Rattle.request_events.proofs.Methods.{Takes, goes_on_at, all_good}

module _ (names : List (List ℕ)) (program : PlainProgram) (accepted : IsKnownAccepted names program) (graph : List (List PlainBlock)) (fits : GraphFits names program graph) (mean : MethodsMean names program graph) (tx : ℕ) where
  abbrev src : Source
  src = record { program = program; names = names }

  abbrev tables : List PlainTable
  tables = tables_of names program

  abbrev Back : List Frame → World → Event → Gives World Value → Type 0
  Back = ComesBack src tables graph tx

  -- Entering

  abbrev entering : Key → ℕ → List Value → ℕ → List Frame → Event
  entering at method args n fs = event tx n fs (kind.Enter (ref_of at) method args)

  body_comes : (d : ℕ) (fs : List Frame) → Takes names program accepted graph fits tx d fs → d ≡ 63 - length fs → (at : Key) → weight_of (entity at) ≤ 65536 → (method : ℕ) (args : List Value) (w : World) (n : ℕ) (fields : List Value) → EventFits tables graph (entering at method args n fs) → StateFits tables w.state
      → map.get w.state at ≡ Some fields → Back fs w (entering at method args n fs) (run_body (in_state src (calls_at src d) at) (slice_get (methods_of src at.0) method) args (reading w at) n)
  body_comes d fs takes deep at light method args w n fields asked state there =
      let m : IsMethod names program accepted.rules.classes accepted.rules.flow at.0 method asked.kind.0.sig = method_is names program accepted.rules.classes accepted.rules.flow at.0 method asked.kind.0.table asked.kind.0.sig asked.kind.0.has_table asked.kind.0.has_method in
      let f : MethodFits names program (leaving names program fits.marks at.0) at.0 method m.is (blocks_of tables graph at.0 method) = fits.methods at.0 method m.is m.at in
      let ran : ComesTo (in_state src (calls_at src d) at) (blocks_of tables graph at.0 method) (bound (params_of (Some m.is)) args) (reading w at) n (run_body (in_state src (calls_at src d) at) (Some m.is) args (reading w at) n) = mean at light method m.is m.at d args (reading w at) n in
      let within : KeepsWithin src at.0 (leaving names program fits.marks at.0) = marks_keep_within names program accepted.rules fits.marks fits.exact at.0 in
      goes_on_at names program accepted graph fits tx d fs takes deep (ref_of at) method (leaving names program fits.marks at.0) within _ f.each ran.fuel
      (all_good names program accepted graph fits tx d fs takes deep (ref_of at) method (leaving names program fits.marks at.0) within _ f.each ran.fuel) w (reading w at) refl (entering at method args n fs) fields 0 f.start
      (bound (params_of (slice_get (methods_of src at.0) method)) args) (bound (params_of (slice_get (methods_of src at.0) method)) args) _ f.is_start (λ k p is. refl) there state asked refl tt refl
      (subst (λ o. run_blocks (in_state src (calls_at src d) at) (recursing (in_state src (calls_at src d) at)) (blocks_of tables graph at.0 method) ran.fuel 0 (bound (params_of o) args) (reading w at) n ≡ Some (run_body (in_state src (calls_at src d) at) o args (reading w at) n)) (sym m.at) ran.by)

  enter_comes : (d : ℕ) (fs : List Frame) → Takes names program accepted graph fits tx d fs → d ≡ 63 - length fs → (at : Key) → weight_of (entity at) ≤ 65536 → (method : ℕ) (args : List Value) (w : World) (n : ℕ) → EventFits tables graph (entering at method args n fs) → StateFits tables w.state
      → Back fs w (entering at method args n fs) (enter src (calls_at src d) at method args w n)
  unfolding enter
  enter_comes d fs takes deep at light method args w n asked state = by (map.get w.state at) refl
    where
      by : (o : Option (List Value)) → map.get w.state at ≡ o → Back fs w (entering at method args n fs) (if_there o (Fell no_entity (reading w at) n) (run_body (in_state src (calls_at src d) at) (slice_get (methods_of src at.0) method) args (reading w at) n))
      by None there = reaches_by src tables graph w (entering at method args n fs) (reading w at) (thrown src tables graph tx fs no_entity n) _ _ (handled src tables graph w (entering at method args n fs) (ref_of at) None 0 _ refl there refl) (reaches_same src tables graph _ _ _ _ refl refl)
      by (Some fields) there = body_comes d fs takes deep at light method args w n fields asked state there

  -- Creating

  abbrev making : Key → List Value → ℕ → List Frame → Event
  making at args n fs = event tx n fs (kind.Make (ref_of at) args)

  created_comes : (fs : List Frame) (at : Key) (w : World) (g : Gives (List Value) Value) → Reaches src tables graph (behind w at (created src tables graph (ref_of at) tx fs g)) (created src tables graph (ref_of at) tx fs g).next (world_in (made at (reading w at) g)) (back src tables graph tx fs (made at (reading w at) g))
  created_comes fs at w (Got v fields n) = reaches_same src tables graph _ _ _ _ refl refl
  created_comes fs at w (Fell f fields n) = reaches_same src tables graph _ _ _ _ refl refl

  create_comes : (fs : List Frame) (at : Key) (args : List Value) (w : World) (n : ℕ) → Back fs w (making at args n fs) (create src at args w n)
  unfolding create
  create_comes fs at args w n = by (map.get w.state at) refl
    where
      by : (o : Option (List Value)) → map.get w.state at ≡ o → Back fs w (making at args n fs) (if_there o (made at (reading w at) (made_record src at args n)) (Fell already_exists (reading w at) n))
      by None there =
          reaches_by src tables graph w (making at args n fs) _ _ _ _ (handled src tables graph w (making at args n fs) (ref_of at) None 0 (created src tables graph (ref_of at) tx fs (made_record src at args n)) refl there refl) (created_comes fs at w (made_record src at args n))
      by (Some fields) there = reaches_by src tables graph w (making at args n fs) (reading w at) (thrown src tables graph tx fs already_exists n) _ _ (subst (λ v. Handles src tables graph w (making at args n fs) v (thrown src tables graph tx fs already_exists n)) (only_read w at fields (thrown src tables graph tx fs already_exists n) there) (handled src tables graph w (making at args n fs) (ref_of at) (Some fields) 0 (record { held = Some fields; wrote = false; next = thrown src tables graph tx fs already_exists n }) refl there refl)) (reaches_same src tables graph _ _ _ _ refl refl)

  -- At each depth

  no_room : (fs : List Frame) → length fs + 0 ≡ 63 → has_room fs ≡ false
  no_room fs is = le-ltb (length fs) 63 (omega (arith, is))

  some_room : (fs : List Frame) (d : ℕ) → length fs + suc d ≡ 63 → has_room fs ≡ true
  some_room fs d is = lt-ltb (length fs) 63 (omega (arith, is))

  one_more : (fs : List Frame) (f : Frame) (d : ℕ) → length fs + suc d ≡ 63 → length (fs ++ f ∷ []) + d ≡ 63
  one_more fs f d is = let longer : length (fs ++ f ∷ []) ≡ length fs + 1 = length-append fs (f ∷ []) in omega (arith, is, longer)

  depth_is : (fs : List Frame) (d : ℕ) → length fs + d ≡ 63 → d ≡ 63 - length fs
  depth_is fs d is = omega (arith, is)

  -- frames and calls that may still be open are 63 together
  takes_at : (d : ℕ) (fs : List Frame) → length fs + d ≡ 63 → Takes names program accepted graph fits tx d fs
  unfolding calls_at
  takes_at zero fs is = record {
    stops = λ at method args w. refl;
    full = λ room at method args w n. refl;
    takes = λ room. absurd (true≢false (sym room ∙ no_room fs is));
    makes_stop = λ class args w. refl;
    makes_full = λ room class args w n. refl;
    makes = λ room. absurd (true≢false (sym room ∙ no_room fs is));
  }
  takes_at (suc d) fs is = record {
    stops = λ at method args w. refl;
    full = λ room. absurd (true≢false (sym (some_room fs d is) ∙ room));
    takes = λ room f at light method args w n asked state. enter_comes d (fs ++ f ∷ []) (takes_at d (fs ++ f ∷ []) (one_more fs f d is)) (depth_is (fs ++ f ∷ []) d (one_more fs f d is)) at light method args w n asked state;
    makes_stop = λ class args w. refl;
    makes_full = λ room. absurd (true≢false (sym (some_room fs d is) ∙ room));
    makes = λ room f class args w n asked state. create_comes (fs ++ f ∷ []) (new_key src class args) args w n;
  }

  -- Requests

  or_left : (a b : Bool) → (a || b) ≡ false → a ≡ false
  or_left true b is = is
  or_left false b is = refl

  asked_comes : (s : State) (asked : Act) → is_too_heavy asked ≡ false → StateFits tables s → ActFits tables asked → Back [] (at_first s) (event tx steps_behind_first [] (asked_for src asked)) (begin src asked s)
  unfolding begin calls_at FramesFit is_too_heavy weight_of
  asked_comes s (act.Call class key method args) light state f = enter_comes 63 [] (takes_at 63 [] refl) refl (class, key) (ltb-false 65536 (1 + length (encode_utf8_all key)) (or_left (nat_lt 65536 (1 + length (encode_utf8_all key))) _ light)) method args (at_first s) 99999 (record { frames = tt; kind = (f, tt) }) state
  asked_comes s (act.New class args) light state f = create_comes [] (new_key src class args) args (at_first s) 99999

  ended_by : (s : State) (g : Gives World Value) → ended_as s (world_in g) (back src tables graph tx [] g).steps (back src tables graph tx [] g).kind ≡ Some (ended s g)
  unfolding up_to
  ended_by s (Got v w n) = refl
  ended_by s (Fell f w n) = refl

  -- where events lead to what a request comes to
  record Leads (s : State) (first : Event) (ran : Ran) : Type 0 where
    world : World
    last : Event
    reaches : Reaches src tables graph (at_first s) first world last
    is : ended_as s world last.steps last.kind ≡ Some ran

  leads : (s : State) (asked : Act) → StateFits tables s → ActFits tables asked → Leads s (first_event src tx asked) (run src s asked)
  unfolding run
  leads s asked state f = by (is_too_heavy asked) refl
    where
      by : (heavy : Bool) → is_too_heavy asked ≡ heavy → Leads s (if heavy then event tx steps_at_first [] (kind.Done (outcome.Failed size_limit)) else event tx steps_behind_first [] (asked_for src asked)) (if heavy then refused s else ended s (begin src asked s))
      by true heavy = record { world = at_first s; last = _; reaches = reaches_same src tables graph _ _ _ _ refl refl; is = refl }
      by false light = record { world = world_in (begin src asked s); last = back src tables graph tx [] (begin src asked s); reaches = asked_comes s asked light state f; is = ended_by s (begin src asked s) }

  graph_means : (s : State) → StateFits tables s → (asked : Act) → ActFits tables asked → EndsAsRun src tables graph tx s asked
  graph_means s state asked f = let l : Leads s (first_event src tx asked) (run src s asked) = leads s asked state f in record { events = l.reaches.events; world = l.world; last = l.last; by = l.reaches.by; is = l.is }

pub events_mean_their_source : EventsMeanTheirSource
events_mean_their_source names program accepted graph fits mean s state asked f tx = graph_means names program accepted graph fits mean tx s state asked f
