-- A `for` as a loop: where its head and its body keep the rules, with the temporaries that count its turns.
use Rattle.std.proofs.Common.{◌≡◌, ◌≤◌, ◌<◌, pos, arith, ℕ, Bool, true, false, cond, Option, Some, None, Ok, List, [], ◌∷◌, ◌++◌, refl, sym, ap, ◌∙◌, subst}
use Rattle.std.specs.Prelude.{◌==◌, is_some, unwrap_or}
use Rattle.std.proofs.lemmas.Option.{none-some}
use Rattle.py_tree.specs.declared.names.Place.{Place}
use Rattle.py_tree.specs.declared.expr.BinOp.TheVariants as op
use Rattle.py_tree.specs.Bounded.{StmtsNames}
use Rattle.py_tree.specs.PlainTypes.{PlainTy, TInt, TBool}
use Rattle.py_tree.specs.PlainExpressions.{PlainExpr, PInt, PVar}
use Rattle.py_tree.specs.PlainStatements.{PlainOver, PlainStmt, PFor, PlainStmts}
use Rattle.py_tree.specs.FlowEnvironment.{PlainLocal, shown, narrowed}
use Rattle.py_tree.specs.ExpressionTypes.{assignable, right_wanted}
use Rattle.py_tree.specs.Reachability.{all_go_on, goes_on, break_in, is_true, assigned_in}
use Rattle.py_tree.specs.Flow.{Context, Known, meet, way, with_local, at_head, keeps, named_at, for_head, Way, begun, after_for, flow, flow_all}
use Rattle.call_graph.specs.SuspendingCode.{Leaving}
use Rattle.program_meaning.proofs.LocalShapes.{Shape, shapes, type_in, earlier_is, shapes_at_head}
use Rattle.program_meaning.proofs.FlowParts.{stored_ok}
use Rattle.program_meaning.proofs.FlowGrows.{ForParts, for_parts}
use Rattle.block_code.specs.PlainVars.{PlainVar}
use Rattle.block_code.specs.GraphFits.{Asked, HasType, at_start}
use Rattle.flat_tree.specs.PlainFlat.{Point, PlainFlatStmt, FSet, FWhile, FLeaf, FNoStmt, flat_stmts_of}
use Rattle.method_splitter.specs.Points.{PointsPass}
use Rattle.flat_types.specs.FlatTypes.{is_point, Supplies, Ends, Behind, LoopFits, Guarded, stmt_fits, stmts_fit}
use Rattle.flat_types.proofs.FlowStays.{EachTyped, all_stay, stmt_stays, shapes_with}
use Rattle.hoisting.specs.Stages.{surely, locals_behind, point_behind}
use Rattle.hoisting.specs.HoistStatements.{Flattened, flat_all, plus}
use Rattle.typed_hoisting.specs.KnownLocals.{seen, Kept, Under, Free, AreVariables}
use Rattle.typed_hoisting.specs.TypedHoisting.{Numbered, AreAmong, CodePasses, Around, code_fits, Typed}
use Rattle.typed_hoisting.proofs.LocalLaws.{apart}
use Rattle.typed_hoisting.proofs.Assignable.{assigned_itself}
use Rattle.typed_hoisting.proofs.EnvironmentLaws.{free_later, variables_narrowed}
use Rattle.typed_hoisting.proofs.PointLaws.{IsVariable}
use Rattle.typed_hoisting.proofs.StoredLaws.{stored_variables}
use Rattle.typed_hoisting.proofs.GuardedItems.{none_guarded}
use Rattle.typed_hoisting.proofs.PassingPoints.{passes_both}
use Rattle.typed_hoisting.proofs.GoodParts.{code_then}
use Rattle.typed_hoisting.proofs.CallsKeep.{Own}
use Rattle.typed_methods.proofs.KnownWays.{seen_among, KnownThere, MetUnder, met_left, met_right, met_here, met_behind}
use Rattle.typed_methods.proofs.StoredKnown.{AllKept, AllUnder, TypedThere, all_itself, all_under, given_as, type_or, head_kept, stored_there, stored_seen, free_same}
use Rattle.typed_methods.proofs.KeptParts.{in_loop_if}
use Rattle.typed_methods.proofs.FlowKept.{GoesSo, begun_ahead, all_kept}
use Rattle.typed_methods.proofs.KnownStays.{begun_above, all_above, Forgets, forgets_first, forgets_rest, narrowed_above, stored_above}
use Rattle.typed_methods.proofs.Floors.{Floors, inside_loop, EachForgets, EachUnder, each_first, each_rest, each_on, each_at_head, each_stored}
use Rattle.typed_methods.proofs.CodeLaws.{stage, At, TypedAs, CaughtAbove, WaysLead, supplied_at, all_under_on, supplies_all, point_at, typed_same, surely_passes, variable_typed, GoodCode}
use Rattle.typed_methods.proofs.SimpleKeep.{EachVariable, Begins}
use Rattle.typed_methods.proofs.StillKeep.{some_typed, each_there}
use Rattle.typed_methods.proofs.PointsBehind.{settled_same, behind_is, ends_behind, behind_passes, behind_end}
use Rattle.typed_methods.proofs.ArmsKeep.{GoodAll}
use Rattle.typed_methods.proofs.WhilesKeep.{head_forgets, head_under}
use Rattle.typed_methods.proofs.StoredAt.{with_type, stored_at, seen_at, head_type, set_fits, as_has, variable_reads, int_typed, plus_typed}
use Rattle.program_meaning.proofs.TypedParts.{numbers}

-- ways of which less is known here
met_back : (ss ts : List Shape) (a b : Option (List Known)) (env : List PlainLocal) → KnownThere ss a ts b → MetUnder ts b env → MetUnder ss a env
met_back ss ts None None env k m = absurd (none-some m.known m.is)
met_back ss ts (Some a) (Some b) env k m = record {
  known = a;
  is = refl;
  short = k.0;
  under = λ x. less (seen_among ss a x) (seen_among ts b x) (seen env x) (k.1 x) (subst (λ ks. Under (seen_among ts ks x) (seen env x)) (sym (ap (λ o. unwrap_or o []) m.is)) (m.under x));
}
  where
    less : (o q r : _) → Kept o q → Under q r → Under o r
    less None q r h u = tt
    less (Some s) q r h u = subst (λ p. Under p r) h u
met_back ss ts None (Some b) env k m = absurd k
met_back ss ts (Some a) None env k m = absurd k

-- a loop whose test isn't the literal True, and whose body begins where its head does
tested : (variables : List PlainVar) (head : Point) (after : Option Point) (test : Asked → Asked → Asked) (body : Asked) (b : Bool) → b ≡ false → Behind variables head (test (Supplies head) (Ends after)) × Behind variables head body → LoopFits variables b head head after test body
tested variables head after test body b e h = subst (λ o. LoopFits variables o head head after test body) (sym e) h

module _ (c : Context) (leaves : Leaving) (own : Own leaves) (limit : ℕ) (at : Place) (name : ℕ) (name_at : Place) (over : PlainOver) (body : PlainStmts) (named : StmtsNames limit body) (good_body : GoodAll c leaves own limit body)
    (looping : Bool) (floor : Floors) (w : Way) (n : ℕ) (end : Way) (b : Begins limit floor w n) (variables : EachVariable w.locals (name ∷ assigned_in body)) (forgotten : EachForgets floor.clauses (name ∷ assigned_in body)) (h : flow (in_loop_if c looping) w (PFor at name name_at over body) ≡ Ok end) where
  abbrev pub statement : PlainStmt
  statement = PFor at name name_at over body

  abbrev pub all : List ℕ
  all = name ∷ assigned_in body

  abbrev pub parts_of : ForParts (in_loop_if c looping) w end name name_at over body
  parts_of = for_parts (in_loop_if c looping) w end at name name_at over body h

  abbrev pub item : PlainTy
  item = parts_of.item

  -- the type of the name
  pub name_type : (t : PlainTy) × (type_in (shapes w.locals) name ≡ Some t)
  name_type = some_typed (type_in (shapes w.locals) name) variables.0

  put : (keeps item (type_in (shapes w.locals) name) ≡ true) × (with_local name item item w.locals ≡ parts_of.named)
  put = let p = stored_ok (in_loop_if c looping) w.locals (named_at name name_at) item parts_of.named parts_of.names in (ap (keeps item) (sym (earlier_is w.locals (named_at name name_at))) ∙ p.0, p.1)

  pub suits : assignable item name_type.0 ≡ true
  suits = ap (keeps item) (sym name_type.1) ∙ put.0

  head_is : for_head all w.locals parts_of.named ≡ at_head all w.locals
  unfolding for_head
  head_is = ap (at_head all) (settled_same parts_of.named w.locals (ap shapes (sym put.1) ∙ shapes_with name item item w.locals variables.0))

  abbrev source_start : List PlainLocal
  source_start = with_local name item item (at_head all w.locals)

  source_turn : flow_all (in_loop_if c true) (begun source_start) body ≡ Ok parts_of.end
  source_turn = ap (λ ls. flow_all (in_loop_if c true) (begun (with_local name item item ls)) body) (sym head_is) ∙ parts_of.turn

  source_shapes : shapes source_start ≡ shapes w.locals
  source_shapes = shapes_with name item item (at_head all w.locals) (ap (λ ss. is_some (type_in ss name)) (shapes_at_head all w.locals) ∙ variables.0) ∙ shapes_at_head all w.locals

  end_shapes : shapes parts_of.end.locals ≡ shapes w.locals
  end_shapes = (all_stay body (in_loop_if c true) (begun source_start) parts_of.end source_turn).same (subst (λ ss. EachTyped ss (assigned_in body)) (sym source_shapes) variables.1) ∙ source_shapes

  same : shapes end.locals ≡ shapes w.locals
  unfolding assigned_in
  same = (stmt_stays statement (in_loop_if c looping) w end h).same variables

  -- as much is known behind the loop as on each way out of it
  behind_met : (env : List PlainLocal) → MetUnder (shapes parts_of.end.locals) (meet (way true (at_head all w.locals)) parts_of.end.breaks) env → AllUnder end.locals env
  unfolding after_for
  behind_met env met =
      subst (λ (v : Way). AllUnder v.locals env) parts_of.is
      (subst (λ ls. AllUnder (after_for ls parts_of.end) env) (sym head_is) (met_behind parts_of.end.locals (meet (way true (at_head all w.locals)) parts_of.end.breaks) env met))

  -- Inside the loop these locals are known, with the temporaries that count its turns
  module _ (ls : List PlainLocal) (k : ℕ) (up : n ≤ k) (kept : AllKept w.locals ls) (there : TypedThere w.locals ls) (free : Free k ls) where
    below : limit ≤ k
    below = omega (arith, b.below, up)

    abbrev pub head : List PlainLocal
    head = at_head all ls

    abbrev pub start : List PlainLocal
    start = with_local name item item head

    abbrev pub code : Flattened (List PlainFlatStmt)
    code = flat_all leaves c body (stage (begun start) k)

    head_shapes : shapes head ≡ shapes ls
    head_shapes = shapes_at_head all ls

    name_there : type_in (shapes head) name ≡ Some name_type.0
    name_there = ap (λ ss. type_in ss name) head_shapes ∙ there name name_type.0 name_type.1

    start_shapes : shapes start ≡ shapes ls
    start_shapes = shapes_with name item item head (ap is_some name_there) ∙ head_shapes

    free_head : Free k head
    free_head = free_same k ls head head_shapes free

    start_kept : AllKept source_start start
    start_kept =
        stored_there name item item item (at_head all w.locals) head
        (name_there ∙ sym (ap (λ o. Some (unwrap_or o item)) (ap (λ ss. type_in ss name) (shapes_at_head all w.locals) ∙ name_type.1))) (head_kept all w.locals ls kept)

    to_start : TypedThere w.locals start
    to_start x t e = ap (λ ss. type_in ss x) start_shapes ∙ there x t e

    turn_kept : GoesSo parts_of.end (begun start) (flow_all (in_loop_if c true) (begun start) body)
    turn_kept =
        all_kept c limit body true true (begun source_start) (begun start) parts_of.end named (λ j t. t) (begun_ahead source_start start start_kept)
        (λ x t e. to_start x t (ap (λ ss. type_in ss x) (sym end_shapes) ∙ e)) source_turn

    forgets : Forgets head all
    forgets = head_forgets all ls

    start_above : AllUnder head start
    start_above = stored_above head name item item head (forgets_first head (name ∷ []) (assigned_in body) forgets) (all_under head head (all_itself head))

    clauses_head : EachUnder floor.clauses head
    clauses_head = each_at_head floor.clauses all ls forgotten (each_on floor.clauses w.locals ls b.above.1 (all_under w.locals ls kept))

    clauses_start : EachUnder floor.clauses start
    clauses_start = each_stored floor.clauses name item item head (each_first floor.clauses (name ∷ []) (assigned_in body) forgotten) clauses_head

    abbrev inner_floor : Floors
    inner_floor = inside_loop head floor

    body_good : GoodCode c leaves true inner_floor (begun start) k code.code code.next turn_kept.end (all_go_on body) (break_in body)
    body_good =
        good_body true inner_floor (begun start) k turn_kept.end (record { below = below; free = free_same k ls start start_shapes free; above = (start_above, clauses_start) })
        (each_there w.locals start (assigned_in body) to_start variables.1)
        (forgets_rest head (name ∷ []) (assigned_in body) forgets, each_rest floor.clauses (name ∷ []) (assigned_in body) forgotten) turn_kept.is

    end_above : AllUnder head turn_kept.end.locals
    end_above = (all_above head body (in_loop_if c true) (begun start) turn_kept.end (forgets_rest head (name ∷ []) (assigned_in body) forgets) (begun_above head start start_above) turn_kept.is).under

    pub made_inside : List PlainVar
    made_inside = body_good.made

    pub numbered_inside : Numbered k made_inside code.next
    unfolding made_inside
    numbered_inside = body_good.numbered

    -- the points of such a loop name variables
    pub loop_passes : (variables : List PlainVar) → AreAmong variables made_inside → TypedAs variables w.locals → TypedAs variables ls → (e : PlainExpr) (turn : List PlainFlatStmt) → CodePasses variables turn
        → PointsPass (is_point variables) (FWhile (surely head) (FLeaf FNoStmt e) (surely head) (flat_stmts_of (turn ++ code.code)) (point_behind c statement w.locals))
    unfolding made_inside goes_on PointsPass
    loop_passes variables among typed typed_ls e turn turns =
        let typed_end : TypedAs variables end.locals = typed_same variables w.locals end.locals same typed in
        let free_end : Free k end.locals = free_later n k end.locals up (free_same n w.locals end.locals same b.free) in
        let here : is_point variables (surely head) ≡ true = surely_passes variables k head free_head (typed_same variables ls head head_shapes typed_ls) in (
          here,
          tt,
          here,
          passes_both variables turn code.code turns (body_good.points variables among (typed_same variables ls start start_shapes typed_ls)),
          behind_passes true (locals_behind c statement w.locals) variables (subst (λ ks. is_point variables (surely ks) ≡ true) (sym (behind_is c looping w end statement h)) (surely_passes variables k end.locals free_end typed_end)),
        )

    -- a loop whose test is this, and whose turns begin so
    pub loop_fits : (m : Around) → CaughtAbove m floor.clauses → AreAmong m.variables made_inside → TypedAs m.variables w.locals → TypedAs m.variables ls → (env : List PlainLocal) → At m.variables ls env → (e : PlainExpr) (turn : List PlainFlatStmt) → is_true e ≡ false
        → ((env : List PlainLocal) → At m.variables head env → HasType c leaves env e TBool)
        → ((inner : Around) → inner.variables ≡ m.variables → CaughtAbove inner floor.clauses → (env : List PlainLocal) → At inner.variables head env → (goal : Asked) → ((after : List PlainLocal) → At inner.variables start after → goal after) → code_fits c leaves inner turn goal env)
        → (goal : Asked) → ((after : List PlainLocal) → At m.variables end.locals after → goal after)
        → stmt_fits c leaves m.variables m.caught m.breaks m.continues (FWhile (surely head) (FLeaf FNoStmt e) (surely head) (flat_stmts_of (turn ++ code.code)) (point_behind c statement w.locals)) goal env
    unfolding stmt_fits made_inside goes_on
    loop_fits m caught among typed typed_ls env at' e turn literal test begins goal go_on =
        let ks : List PlainLocal = locals_behind c statement w.locals in
        let is : ks ≡ end.locals = behind_is c looping w end statement h in
        let after : Option Point = point_behind c statement w.locals in
        let typed_head : TypedAs m.variables head = typed_same m.variables ls head head_shapes typed_ls in
        let typed_start : TypedAs m.variables start = typed_same m.variables ls start start_shapes typed_ls in
        let typed_end : TypedAs m.variables end.locals = typed_same m.variables w.locals end.locals same typed in
        let free_end : Free k end.locals = free_later n k end.locals up (free_same n w.locals end.locals same b.free) in
        let env_h : List PlainLocal = at_start m.variables (surely head) in
        let at_h : At m.variables head env_h = point_at m.variables k head free_head typed_head in
        let under_h : AllUnder head env_h = all_under head env_h at_h.kept in
        let names : Bool → List ℕ = λ b. shown b e in
        let ends : (env : List PlainLocal) → AreVariables m.variables env → AllUnder end.locals env → Ends after env = λ env are under.
        ends_behind true ks env refl (subst (λ ks. Supplies (surely ks) env) (sym is) (supplies_all m.variables k end.locals env free_end are under)) in
        let guarded : Guarded c m.caught [] env_h = none_guarded c m.caught env_h (supplied_at m floor.clauses caught head clauses_head env_h at_h) in
        let inside : Around = record { variables = m.variables; caught = m.caught; breaks = Ends after; continues = Supplies (surely head) } in
        let ways_body : WaysLead inside inner_floor true (break_in body) turn_kept.end = record {
          at_break = λ left env are met.
              ends env are
              (behind_met env (met_right (shapes parts_of.end.locals) env (way true (at_head all w.locals)) parts_of.end.breaks (met_back (shapes parts_of.end.locals) (shapes turn_kept.end.locals) parts_of.end.breaks turn_kept.end.breaks env turn_kept.ahead.breaks met)));
          at_continue = λ loops env are under. supplies_all m.variables k head env free_head are under;
          at_caught = caught;
        } in
        let failing : AllUnder end.locals (narrowed (names false) env_h) =
        behind_met (narrowed (names false) env_h)
        (subst (λ ss. MetUnder ss (meet (way true (at_head all w.locals)) parts_of.end.breaks) (narrowed (names false) env_h)) (shapes_at_head all w.locals ∙ sym end_shapes)
        (met_left (shapes (at_head all w.locals)) (narrowed (names false) env_h) (way true (at_head all w.locals)) parts_of.end.breaks
        (met_here (at_head all w.locals) (narrowed (names false) env_h)
        (narrowed_above (at_head all w.locals) (names false) env_h (all_under_on (at_head all w.locals) head env_h (all_under (at_head all w.locals) head (head_kept all w.locals ls kept)) under_h))))) in (
          supplies_all m.variables k head env free_head at'.are (all_under_on head ls env (head_under all ls) (all_under ls env at'.kept)),
          tested m.variables (surely head) after _ _ (is_true e) literal (
            (
              (
                test env_h at_h,
                supplies_all m.variables k head (narrowed (names true) env_h) free_head (variables_narrowed m.variables (names true) env_h at_h.are) (narrowed_above head (names true) env_h under_h),
                ends (narrowed (names false) env_h) (variables_narrowed m.variables (names false) env_h at_h.are) failing,
              ),
              guarded,
            ),
            code_then c leaves inside turn code.code (Supplies (surely head)) env_h
                (begins inside refl caught env_h at_h (code_fits c leaves inside code.code (Supplies (surely head)))
                (λ env there. body_good.fits inside among typed_start env there ways_body (Supplies (surely head))
                (λ go last at_last. supplies_all m.variables k head last free_head at_last.are (all_under_on head turn_kept.end.locals last end_above (all_under turn_kept.end.locals last at_last.kept))))),
          ),
          behind_end true ks m.variables goal (λ go. go_on (at_start m.variables (surely ks)) (subst (λ ks. At m.variables end.locals (at_start m.variables (surely ks))) (sym is) (point_at m.variables k end.locals free_end typed_end))),
          guarded,
          guarded,
        )

    name_apart : name < limit → (s : ℕ) → limit ≤ s → (name == s) ≡ false
    name_apart low s high = apart name s (λ e. omega (arith, low, high, e))

    -- a turn puts a value into the name, and counts on
    pub counted_turn : name < limit → (m : Around) → CaughtAbove m floor.clauses → TypedAs m.variables ls → (env : List PlainLocal) → At m.variables head env → (v : PlainExpr) → Typed c leaves None item env v → (s : ℕ) → limit ≤ s → seen ls s ≡ with_type TInt → IsVariable m.variables s TInt
        → (goal : Asked) → ((after : List PlainLocal) → At m.variables start after → goal after) → code_fits c leaves m (FSet name v ∷ FSet s (plus at (PVar at s) (PInt at (pos 1))) ∷ []) goal env
    unfolding stmts_fit
    counted_turn low m caught typed_ls env at' v hv s high counter is_s goal goes =
        let t : PlainTy = name_type.0 in
        let is_name : IsVariable m.variables name t = typed_ls name t (there name t name_type.1) in
        let env1 : List PlainLocal = with_local name item item env in
        let at1 : At m.variables start env1 = record {
          are = stored_variables m.variables name t item env at'.are is_name;
          kept = stored_there name item item item head env (variable_typed m.variables env name t at'.are is_name ∙ sym (ap (λ o. Some (unwrap_or o item)) name_there)) at'.kept;
        } in
        let counter1 : seen start s ≡ with_type TInt =
        stored_seen name item item head s ∙ ap (λ b. cond b (Some (given_as (type_or head name item) item)) (seen head s)) (name_apart low s high) ∙ head_type all ls s TInt counter in
        let env2 : List PlainLocal = with_local s TInt TInt env1 in
        let at2 : At m.variables start env2 = stored_at m.variables s TInt TInt env1 at1.are is_s start at1.kept (subst (λ o. Kept o (Some (given_as TInt TInt))) (sym counter1) refl) in
        set_fits c leaves m name v item t env (as_has c leaves None item env v hv) at'.are is_name suits (supplied_at m floor.clauses caught head clauses_head env at') (supplied_at m floor.clauses caught start clauses_start env1 at1) _
        (set_fits c leaves m s (plus at (PVar at s) (PInt at (pos 1))) TInt TInt env1
        (as_has c leaves None TInt env1 (plus at (PVar at s) (PInt at (pos 1)))
        (plus_typed c leaves env1 at (PVar at s) (PInt at (pos 1)) TInt numbers (variable_reads c leaves env1 None at s TInt (seen_at m.variables start env1 s TInt at1 counter1)) (int_typed c leaves env1 (right_wanted op.Add TInt) at (pos 1))))
        at1.are is_s (assigned_itself TInt) (supplied_at m floor.clauses caught start clauses_start env1 at1) (supplied_at m floor.clauses caught start clauses_start env2 at2) _ (goes env2 at2))
