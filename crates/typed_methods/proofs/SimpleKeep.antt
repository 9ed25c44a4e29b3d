-- Statements over one expression keep the rules where calls come out of it.
use Rattle.std.proofs.Common.{◌≡◌, ◌≤◌, arith, ℕ, Bool, true, false, not, Option, Some, None, Result, Ok, List, [], ◌∷◌, ◌++◌, refl, sym, ap, ◌∙◌, subst, true≢false}
use Rattle.std.specs.Prelude.{is_some, unwrap_or, IfSome}
use Rattle.py_tree.specs.declared.names.Place.{Place}
use Rattle.py_tree.specs.declared.rule.Rule.TheVariants.{LoopWord, Mismatch}
use Rattle.py_tree.specs.declared.rule.RuleFault.{RuleFault}
use Rattle.py_tree.specs.declared.names.PlacedName.{PlacedName}
use Rattle.py_tree.specs.declared.stmt.Target.TheVariants.{Local, Field}
use Rattle.py_tree.specs.Bounded.{ExprNames, StmtNames, RaisesFailure}
use Rattle.py_tree.specs.PlainTypes.{PlainTy, TStr, TNil, PlainWritten}
use Rattle.py_tree.specs.PlainExpressions.{PlainExpr, PNil}
use Rattle.py_tree.specs.PlainStatements.{PlainStmt, PPass, PBreak, PContinue, PDo, PReturn, PRaise, PAssert, PAssign}
use Rattle.py_tree.specs.FlowEnvironment.{PlainLocal, shown, narrowed}
use Rattle.py_tree.specs.ExpressionTypes.{field_of, is_str, assignable, refuse_if, with_found, place_of, type_of}
use Rattle.py_tree.specs.Reachability.{goes_on, breaks, local_assigned}
use Rattle.py_tree.specs.Flow.{Context, type_at, condition_at, result_at, way, with_local, needs_none, return_fault, message_fault, earlier, assigned, Way, on, broken_off, flow}
use Rattle.call_graph.specs.SuspendingCode.{Leaving, expr_suspends}
use Rattle.program_meaning.proofs.LocalShapes.{shapes, type_in, earlier_is}
use Rattle.program_meaning.proofs.TypedParts.{done, same_ok, found_ok, refuse_ok, passes_ok, str_is, condition_ok}
use Rattle.program_meaning.proofs.FlowParts.{no_fault, no_need, return_nothing_ok, return_ok, field_ok}
use Rattle.block_code.specs.PlainVars.{PlainVar}
use Rattle.block_code.specs.PlainBlocks.{IMark}
use Rattle.block_code.specs.GraphFits.{Asked, HasType, MessageFits, ValueSuits, at_start}
use Rattle.flat_tree.specs.PlainFlat.{Point, FGive, FFail}
use Rattle.method_splitter.specs.Points.{PointsPass}
use Rattle.flat_types.specs.FlatTypes.{is_point, Supplies, Guarded, stmts_fit}
use Rattle.flat_types.proofs.FlowStays.{EachTyped}
use Rattle.hoisting.specs.Stages.{Stage, surely, ty_at, found_ty}
use Rattle.hoisting.specs.HoistExpressions.{Hoisted, Tested, settled_unless, lasts, forms}
use Rattle.hoisting.specs.HoistStatements.{stored as store, optional, opened}
use Rattle.typed_hoisting.specs.KnownLocals.{Free}
use Rattle.typed_hoisting.specs.TypedHoisting.{Around, GuardsHold, code_fits, Typed, Good, GoodTest, GoodForms}
use Rattle.typed_hoisting.proofs.EnvironmentLaws.{free_later, free_narrowed, forgotten_least}
use Rattle.typed_hoisting.proofs.PointLaws.{found_local, supplies}
use Rattle.typed_hoisting.proofs.StoredLaws.{takes, stored_variables}
use Rattle.typed_hoisting.proofs.GuardedItems.{guards_on, guards_at, mark_guarded, put_guarded, give_guarded, fail_guarded, set_guarded}
use Rattle.typed_hoisting.proofs.PassingPoints.{passes_both}
use Rattle.typed_hoisting.proofs.GoodParts.{numbered_up, numbered_both, among_first, among_rest, still_good, built_good, settled_unless_good, code_then}
use Rattle.typed_hoisting.proofs.CallsKeep.{Own}
use Rattle.typed_hoisting.proofs.ExpressionsKeep.{each_expression_keeps}
use Rattle.typed_methods.proofs.KnownWays.{MetUnder, met_right, met_here}
use Rattle.typed_methods.proofs.StoredKnown.{all_under, type_or, stored_there}
use Rattle.typed_methods.proofs.KeptParts.{in_loop_if, LocalAssigned, local_parts}
use Rattle.typed_methods.proofs.Floors.{Floors, all_floors, EachForgets, EachUnder, each_stored}
use Rattle.typed_methods.proofs.CodeLaws.{stage, At, TypedAs, CaughtAbove, guards_above, supplied_at, all_under_on, to_stands, at_as, supplies_all, point_at, variable_typed, typed_same, are_typed, surely_passes, marked_passes, GoodCode, no_more, no_more_is, behind_good, marked_fits}
use Rattle.program_meaning.proofs.LocalShapes.{shapes_narrowed}

abbrev pub EachVariable : List PlainLocal → List ℕ → Type 0
EachVariable locals names = EachTyped (shapes locals) names

-- where a statement begins: temporaries from the next one on are unused, and at least as much is known as at the head of the loop around and
-- where the clauses around begin
pub record Begins (limit : ℕ) (floor : Floors) (w : Way) (n : ℕ) : Type 0 where
  pub below : limit ≤ n
  pub free : Free n w.locals
  pub above : EachUnder (all_floors floor) w.locals

module _ (c : Context) (leaves : Leaving) (own : Own leaves) (limit : ℕ) where
  pub forms_good : (e : PlainExpr) → ExprNames limit e → GoodForms c leaves limit e (forms leaves c e)
  forms_good e named = each_expression_keeps c leaves own limit e named

  -- a statement that is opened
  abbrev pub GoodOpened : PlainStmt → Bool → Floors → Way → ℕ → Way → Type 1
  GoodOpened x looping floor w n end = GoodCode c leaves looping floor w n (opened leaves c x (stage w n)).code (opened leaves c x (stage w n)).next end (goes_on x) (breaks x)

  result_here : (looping : Bool) → result_at (in_loop_if c looping) ≡ result_at c
  unfolding result_at
  result_here looping = refl

  module _ (looping : Bool) (floor : Floors) (w : Way) (n : ℕ) (b : Begins limit floor w n) (end : Way) where
    abbrev d : Context
    d = in_loop_if c looping

    abbrev here : Stage
    here = stage w n

    goes_to : (variables : List PlainVar) (after : List PlainLocal) → w ≡ end → At variables w.locals after → At variables end.locals after
    goes_to variables after e at = at_as variables w.locals end.locals after (ap (λ (v : Way). v.locals) e) at

    guard : (m : Around) → CaughtAbove m floor.clauses → GuardsHold m n w.locals
    guard m caught = guards_above m floor.clauses caught w.locals b.above.1 n b.free

    marked : (m : Around) → CaughtAbove m floor.clauses → (env : List PlainLocal) → At m.variables w.locals env → Guarded c m.caught (IMark ∷ []) env
    marked m caught env at = mark_guarded c m.caught env (supplied_at m floor.clauses caught w.locals b.above.1 env at)

    pub pass_good : (at : Place) → flow d w (PPass at) ≡ Ok end → GoodOpened (PPass at) looping floor w n end
    unfolding flow opened goes_on breaks stmts_fit PointsPass
    pass_good at h = record { made = []; numbered = refl; points = λ variables among typed. (tt, tt); fits = λ m among typed env at' ways goal goes. (goes refl env (goes_to m.variables env (same_ok w end h) at'), marked m ways.at_caught env at') }

    pub break_good : (at : Place) → flow d w (PBreak at) ≡ Ok end → GoodOpened (PBreak at) looping floor w n end
    unfolding flow opened goes_on breaks stmts_fit PointsPass
    break_good at h =
        let is : broken_off w ≡ end = same_ok (broken_off w) end (refuse_ok (not looping) LoopWord at (Ok (broken_off w)) end h).1 in
        record {
          made = [];
          numbered = refl;
          points = λ variables among typed. (tt, (tt, tt));
          fits = λ m among typed env at' ways goal goes. (
            ways.at_break refl env at'.are
                (subst (λ (v : Way). MetUnder (shapes v.locals) v.breaks env) is (met_right (shapes w.locals) env w.breaks (way true w.locals) (met_here w.locals env (all_under w.locals env at'.kept)))),
            marked m ways.at_caught env at',
          );
        }

    pub continue_good : (at : Place) → flow d w (PContinue at) ≡ Ok end → GoodOpened (PContinue at) looping floor w n end
    unfolding flow opened goes_on breaks stmts_fit PointsPass
    continue_good at h = record {
      made = [];
      numbered = refl;
      points = λ variables among typed. (tt, (tt, tt));
      fits = λ m among typed env at' ways goal goes. (ways.at_continue (in_a_loop looping (refuse_ok (not looping) LoopWord at (Ok w) end h).0) env at'.are (all_under_on floor.head w.locals env b.above.0 (all_under w.locals env at'.kept)), marked m ways.at_caught env at');
    }
      where
        in_a_loop : (a : Bool) → not a ≡ false → a ≡ true
        in_a_loop true e = refl
        in_a_loop false e = absurd (true≢false e)

    pub do_good : (at : Place) (e : PlainExpr) → StmtNames limit (PDo at e) → flow d w (PDo at e) ≡ Ok end → GoodOpened (PDo at e) looping floor w n end
    unfolding flow opened goes_on breaks stmts_fit PointsPass StmtNames
    do_good at e named h =
        let p : (ty : PlainTy) × (type_at c w.locals None e ≡ Ok ty) × (done w ≡ Ok end) = found_ok (type_at c w.locals None e) (λ ty. Ok w) end h in
        let a : Hoisted PlainExpr = settled_unless (lasts leaves e) at (ty_at c None w.locals e) ((forms leaves c e).value None here) in
        let g : Good c leaves here a (Typed c leaves None p.0) = settled_unless_good c leaves (lasts leaves e) here ((forms leaves c e).value None here) at None (ty_at c None w.locals e) p.0 (ap found_ty p.1) ((forms_good e named).value None here p.0 b.below b.free p.1) in
        record {
          made = g.made;
          numbered = g.numbered;
          points = λ variables among typed. (tt, g.points variables among (are_typed variables w.locals typed));
          fits = λ m among typed env at' ways goal goes. (
            g.before m among env (to_stands m.variables n w.locals env at') (guard m ways.at_caught) goal
                (λ after there. goes refl after (goes_to m.variables after (same_ok w end p.2) (behind_good c leaves here a m.variables after b.free g there))),
            marked m ways.at_caught env at',
          );
        }

    -- Returns

    nil_suits : (locals : List PlainLocal) (at : Place) → assignable TNil (result_at c) ≡ true → ValueSuits c leaves locals (PNil at) (result_at c)
    unfolding type_of expr_suspends
    nil_suits locals at suits = record { ty = TNil; has = record { wanted = None; typed = refl; stays = refl }; suits = suits }

    pub return_good : (at : Place) (e : Option PlainExpr) → StmtNames limit (PReturn at e) → flow d w (PReturn at e) ≡ Ok end → GoodOpened (PReturn at e) looping floor w n end
    unfolding flow opened goes_on breaks stmts_fit PointsPass StmtNames
    return_good at None named h =
        let suits : assignable TNil (result_at c) ≡ true = ap (assignable TNil) (sym (result_here looping)) ∙ return_nothing_ok d w.locals at (no_need (return_fault d w.locals at None) (Ok w) end h).0 in
        record { made = []; numbered = refl; points = λ variables among typed. (tt, (tt, tt)); fits = λ m among typed env at' ways goal goes. ((nil_suits env at suits, give_guarded c m.caught (PNil at) env (supplied_at m floor.clauses ways.at_caught w.locals b.above.1 env at')), marked m ways.at_caught env at') }
    return_good at (Some e) named h =
        let p : (ty : PlainTy) × (type_at d w.locals (Some (result_at d)) e ≡ Ok ty) × (assignable ty (result_at d) ≡ true) = return_ok d w.locals at e (no_need (return_fault d w.locals at (Some e)) (Ok w) end h).0 in
        let wanted : Option PlainTy = Some (result_at c) in
        let a : Hoisted PlainExpr = (forms leaves c e).value wanted here in
        let g : Good c leaves here a (Typed c leaves wanted p.0) = (forms_good e named).value wanted here p.0 b.below b.free (ap (λ t. type_at c w.locals (Some t) e) (sym (result_here looping)) ∙ p.1) in
        record {
          made = g.made;
          numbered = g.numbered;
          points = λ variables among typed. marked_passes c leaves here a (FGive a.rest) g variables among typed tt;
          fits = λ m among typed env at' ways goal goes.
              marked_fits c leaves here a (λ r. FGive r) g m among (guard m ways.at_caught) env at' goal
              (λ after there rest supplied. (record { ty = p.0; has = record { wanted = wanted; typed = rest.0; stays = rest.1 }; suits = ap (assignable p.0) (sym (result_here looping)) ∙ p.2 }, give_guarded c m.caught a.rest after supplied));
        }

    -- Failures

    message_typed : (locals : List PlainLocal) (e : PlainExpr) → message_fault d locals (Some e) ≡ None → type_at c locals None e ≡ Ok TStr
    unfolding message_fault
    message_typed locals e h =
        let then_str : PlainTy → Result PlainTy RuleFault = λ ty. refuse_if (not (is_str ty)) Mismatch (place_of e) (Ok ty) in
        let p : (ty : PlainTy) × (with_found (type_at d locals None e) then_str ≡ Ok ty) = no_fault (with_found (type_at d locals None e) then_str) h in
        let q : (t : PlainTy) × (type_at d locals None e ≡ Ok t) × (then_str t ≡ Ok p.0) = found_ok (type_at d locals None e) then_str p.0 p.1 in
        let r = passes_ok (is_str q.0) Mismatch (place_of e) (Ok q.0) p.0 q.2 in
        q.1 ∙ ap Ok (str_is q.0 r.0)

    abbrev MessageIs : List PlainLocal → Option PlainExpr → Type 0
    MessageIs locals e = MessageFits c leaves locals e

    -- a message, at a stage with the same locals
    message_good : (k : ℕ) → limit ≤ k → Free k w.locals → (e : Option PlainExpr) → IfSome e (ExprNames limit) → message_fault d w.locals e ≡ None
        → Good c leaves (stage w k) (optional leaves c None e (stage w k)) MessageIs
    message_good k below free None named h = still_good c leaves (stage w k) None MessageIs free (λ there alike. tt)
    message_good k below free (Some e) named h =
        let typed : type_at c w.locals None e ≡ Ok TStr = message_typed w.locals e h in
        built_good c leaves (stage w k) ((forms leaves c e).value None (stage w k)) Some MessageIs ((forms_good e named).value None (stage w k) TStr below free typed)
        (λ there x. record { wanted = None; typed = x.0; stays = x.1 })

    pub raise_good : (at : Place) (kind : ℕ) (e : Option PlainExpr) → StmtNames limit (PRaise at kind e) → RaisesFailure (PRaise at kind e) → flow d w (PRaise at kind e) ≡ Ok end → GoodOpened (PRaise at kind e) looping floor w n end
    unfolding flow opened goes_on breaks stmts_fit PointsPass StmtNames
    raise_good at kind e named kinds h =
        let a : Hoisted (Option PlainExpr) = optional leaves c None e here in
        let g : Good c leaves here a MessageIs = message_good n b.below b.free e named (no_need (message_fault d w.locals e) (Ok w) end h).0 in
        record {
          made = g.made;
          numbered = g.numbered;
          points = λ variables among typed. marked_passes c leaves here a (FFail kind a.rest) g variables among typed tt;
          fits = λ m among typed env at' ways goal goes. marked_fits c leaves here a (FFail kind) g m among (guard m ways.at_caught) env at' goal (λ after there rest supplied. ((omega (arith, kinds.0), omega (arith, kinds.1), rest), fail_guarded c m.caught kind a.rest after supplied));
        }

    -- Asserts

    pub assert_good : (at : Place) (test : PlainExpr) (e : Option PlainExpr) → StmtNames limit (PAssert at test e) → flow d w (PAssert at test e) ≡ Ok end → GoodOpened (PAssert at test e) looping floor w n end
    unfolding flow opened goes_on breaks stmts_fit PointsPass StmtNames
    assert_good at test e named h =
        let ls : List PlainLocal = narrowed (shown true test) w.locals in
        let rest : PlainTy → Result Way RuleFault = λ ty. needs_none (message_fault d w.locals e) (Ok (on w ls)) in
        let p : (ty : PlainTy) × (condition_at d w.locals test ≡ Ok ty) × (rest ty ≡ Ok end) = found_ok (condition_at d w.locals test) rest end h in
        let q = no_need (message_fault d w.locals e) (Ok (on w ls)) end p.2 in
        let t : Tested _ = (forms leaves c test).test here in
        let gt : GoodTest c leaves here _ t.next ls (narrowed (shown false test) w.locals) = (forms_good test named.0).test here b.below b.free (condition_ok (place_of test) (type_at c w.locals None test) p.0 p.1).0 in
        let up : n ≤ t.next = numbered_up n gt.made t.next gt.numbered in
        let free : Free t.next w.locals = free_later n t.next w.locals up b.free in
        let free_true : Free t.next ls = free_narrowed n t.next (shown true test) w.locals up b.free in
        let failing : Stage = stage w t.next in
        let a : Hoisted (Option PlainExpr) = optional leaves c None e failing in
        let g : Good c leaves failing a MessageIs = message_good t.next (omega (arith, b.below, up)) free e named.1 q.0 in
        let behind : Point = surely ls in
        record {
          made = gt.made ++ g.made;
          numbered = numbered_both n gt.made g.made t.next a.stage.next gt.numbered g.numbered;
          points = λ variables among typed.
              let typed_true : TypedAs variables ls = typed_same variables w.locals ls (shapes_narrowed (shown true test) w.locals) typed in
              let behind_passes : is_point variables behind ≡ true = surely_passes variables t.next ls free_true typed_true in (
                tt,
                (
                  (
                    (gt.points variables (among_first variables gt.made g.made among) (are_typed variables w.locals typed), behind_passes, tt, surely_passes variables t.next w.locals free typed, tt),
                    passes_both variables a.before (FFail 3 a.rest ∷ []) (g.points variables (among_rest variables gt.made g.made among) (are_typed variables w.locals typed)) (tt, tt),
                    behind_passes,
                  ),
                  tt,
                ),
              );
          fits = λ m among typed env at' ways goal goes.
              let typed_true : TypedAs m.variables ls = λ x u e. typed x u (ap (λ ss. type_in ss x) (sym (shapes_narrowed (shown true test) w.locals)) ∙ e) in
              let at_true : At m.variables ls (at_start m.variables behind) = point_at m.variables t.next ls free_true typed_true in
              let at_false : At m.variables w.locals (at_start m.variables (surely w.locals)) = point_at m.variables t.next w.locals free typed in
              let tail : Asked = code_fits c leaves m (FFail 3 a.rest ∷ []) (Supplies behind) in
              let start : List PlainLocal = at_start m.variables (surely w.locals) in
              let later : GuardsHold m t.next w.locals = guards_above m floor.clauses ways.at_caught w.locals b.above.1 t.next free in
              let failed : GuardsHold m a.stage.next a.stage.locals = guards_on m t.next a.stage.next w.locals a.stage.locals (numbered_up t.next g.made a.stage.next g.numbered) g.alike later in (
                (
                  (
                    gt.sides m (among_first m.variables gt.made g.made among) env (to_stands m.variables n w.locals env at') (guard m ways.at_caught) (Supplies behind) (Supplies (surely w.locals))
                        (λ after least. supplies m.variables n ls after (free_narrowed n n (shown true test) w.locals (omega arith) b.free) least)
                        (λ after least. supplies m.variables n w.locals after b.free (forgotten_least m.variables n n (shown false test) w.locals after (omega arith) least)),
                    supplies_all m.variables t.next ls (at_start m.variables behind) free_true at_true.are (all_under ls (at_start m.variables behind) at_true.kept),
                    code_then c leaves m a.before (FFail 3 a.rest ∷ []) (Supplies behind) start
                        (g.before m (among_rest m.variables gt.made g.made among) start (to_stands m.variables t.next w.locals start at_false) later tail
                        (λ after there. ((omega arith, omega arith, g.rest after there.alike), fail_guarded c m.caught 3 a.rest after (guards_at m a.stage.next a.stage.locals after failed there)))),
                  ),
                  goes refl (at_start m.variables behind) (at_as m.variables ls end.locals (at_start m.variables behind) (ap (λ (v : Way). v.locals) (same_ok (on w ls) end q.1)) at_true),
                ),
                marked m ways.at_caught env at',
              );
        }

    -- Assignments

    pub assign_local : (at : Place) (x : PlacedName) (written : Option PlainWritten) (e : PlainExpr) → StmtNames limit (PAssign at (Local x) written e) → EachVariable w.locals (local_assigned (Local x)) → EachForgets floor.clauses (local_assigned (Local x)) → flow d w (PAssign at (Local x) written e) ≡ Ok end
        → GoodOpened (PAssign at (Local x) written e) looping floor w n end
    unfolding flow opened goes_on breaks stmts_fit PointsPass StmtNames
    assign_local at x written e named variable forgets h =
        let p : (ls : List PlainLocal) × (assigned d w.locals at (Local x) written e ≡ Ok ls) × (done (on w ls) ≡ Ok end) = found_ok (assigned d w.locals at (Local x) written e) (λ ls. Ok (on w ls)) end h in
        let q : LocalAssigned d w.locals x written e p.0 = local_parts d w.locals x e p.0 at written p.1 in
        let t : PlainTy = type_or w.locals x.name.0 q.first in
        let has : type_in (shapes w.locals) x.name.0 ≡ Some t = there (type_in (shapes w.locals) x.name.0) variable.0 q.first in
        let wanted : Option PlainTy = earlier w.locals x in
        let a : Hoisted PlainExpr = (forms leaves c e).value wanted here in
        let g : Good c leaves here a (Typed c leaves wanted q.ty) = (forms_good e named.2).value wanted here q.ty b.below b.free (ap (λ o. type_at c w.locals o e) (earlier_is w.locals x ∙ has) ∙ q.typed) in
        let is : with_local x.name.0 q.first q.ty w.locals ≡ end.locals = q.is ∙ ap (λ (v : Way). v.locals) (same_ok (on w p.0) end p.2) in
        record {
          made = g.made;
          numbered = g.numbered;
          points = λ variables among typed. marked_passes c leaves here a (store (Local x) a.rest) g variables among typed tt;
          fits = λ m among typed env at' ways goal goes.
              marked_fits c leaves here a (store (Local x)) g m among (guard m ways.at_caught) env at' goal
              (λ after stands rest supplied.
              let before : At m.variables w.locals after = behind_good c leaves here a m.variables after b.free g stands in
              let variable = typed x.name.0 t has in
              let after2 : List PlainLocal = with_local x.name.0 q.ty q.ty after in
              let behind : At m.variables (with_local x.name.0 q.first q.ty w.locals) after2 = record {
                are = stored_variables m.variables x.name.0 t q.ty after before.are variable;
                kept = stored_there x.name.0 q.first q.ty q.ty w.locals after (variable_typed m.variables after x.name.0 t before.are variable) before.kept;
              } in
              let has : HasType c leaves after a.rest q.ty = record { wanted = wanted; typed = rest.0; stays = rest.1 } in (
                (
                  q.ty,
                  has,
                  takes m.variables x.name.0 t q.ty after before.are variable q.suits (no_more c leaves m goal) (no_more_is c leaves m goal after2 (goes refl after2 (at_as m.variables _ end.locals after2 is behind))),
                ),
                set_guarded c leaves m.variables x.name.0 a.rest q.ty t after has (found_local m.variables after x.name.0 t before.are variable) m.caught supplied
                    (supplied_at m floor.clauses ways.at_caught (with_local x.name.0 q.first q.ty w.locals) (each_stored floor.clauses x.name.0 q.first q.ty w.locals forgets b.above.1) after2 behind),
              ));
        }
      where
        there : (o : Option PlainTy) → is_some o ≡ true → (first : PlainTy) → o ≡ Some (unwrap_or o first)
        there (Some t) e first = refl
        there None e first = absurd (true≢false (sym e))

    pub assign_field : is_some c.method ≡ true → (at : Place) (f : PlacedName) (written : Option PlainWritten) (e : PlainExpr) → StmtNames limit (PAssign at (Field f) written e) → flow d w (PAssign at (Field f) written e) ≡ Ok end
        → GoodOpened (PAssign at (Field f) written e) looping floor w n end
    unfolding flow opened goes_on breaks stmts_fit PointsPass StmtNames
    assign_field method at f written e named h =
        let p : (ls : List PlainLocal) × (assigned d w.locals at (Field f) written e ≡ Ok ls) × (done (on w ls) ≡ Ok end) = found_ok (assigned d w.locals at (Field f) written e) (λ ls. Ok (on w ls)) end h in
        let q = field_ok d w.locals at f written e p.0 method p.1 in
        let wanted : Option PlainTy = field_of c.tables c.class f.name.0 in
        let a : Hoisted PlainExpr = (forms leaves c e).value wanted here in
        let g : Good c leaves here a (Typed c leaves wanted q.1) = (forms_good e named.2).value wanted here q.1 b.below b.free (ap (λ o. type_at c w.locals o e) q.2 ∙ q.3) in
        let is : w.locals ≡ end.locals = q.5 ∙ ap (λ (v : Way). v.locals) (same_ok (on w p.0) end p.2) in
        record {
          made = g.made;
          numbered = g.numbered;
          points = λ variables among typed. marked_passes c leaves here a (store (Field f) a.rest) g variables among typed tt;
          fits = λ m among typed env at' ways goal goes.
              marked_fits c leaves here a (store (Field f)) g m among (guard m ways.at_caught) env at' goal
              (λ after stands rest supplied. (
                (
                  record { ty = q.0; is = q.2; fits = record { ty = q.1; has = record { wanted = wanted; typed = rest.0; stays = rest.1 }; suits = q.4 } },
                  no_more_is c leaves m goal after (goes refl after (at_as m.variables w.locals end.locals after is (behind_good c leaves here a m.variables after b.free g stands))),
                ),
                put_guarded c m.caught f.name.0 a.rest after supplied,
              ));
        }
