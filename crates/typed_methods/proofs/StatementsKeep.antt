-- Every statement keeps the rules where calls come out of it.
use Rattle.std.proofs.Common.{◌≡◌, ◌≤◌, arith, ℕ, Bool, true, false, not, cond, None, Ok, List, [], ◌++◌, refl, sym, ap, subst}
use Rattle.std.specs.Prelude.{◌||◌, ◌&&◌, is_some}
use Rattle.py_tree.specs.declared.stmt.Target.TheVariants.{Local, Field}
use Rattle.py_tree.specs.Bounded.{StmtNames, StmtsNames, ArmsNames, EachStmt, EachOfStmts, EachOfArms, RaisesFailure}
use Rattle.py_tree.specs.PlainStatements.{PRange, PItems, PlainStmt, PPass, PBreak, PContinue, PDo, PReturn, PRaise, PAssert, PAssign, PAugment, PIf, PWhile, PFor, PlainStmts, PNoStmt, PStmt, PArm, PlainArms, PNoArm, PMoreArms}
use Rattle.py_tree.specs.FlowEnvironment.{PlainLocal}
use Rattle.py_tree.specs.Reachability.{goes_on, all_go_on, breaks, break_in, assigns, assigned_in}
use Rattle.py_tree.specs.Flow.{Context, Way, begun, flow, flow_all}
use Rattle.call_graph.specs.SuspendingCode.{Leaving, stmt_suspends}
use Rattle.program_meaning.proofs.LocalShapes.{shapes}
use Rattle.program_meaning.proofs.TypedParts.{done, same_ok}
use Rattle.program_meaning.proofs.FlowGrows.{all_parts}
use Rattle.flat_tree.specs.PlainFlat.{PlainFlatStmt}
use Rattle.flat_tree.specs.Flatness.{jumps}
use Rattle.method_splitter.specs.Points.{PointsPass}
use Rattle.flat_types.specs.FlatTypes.{stmts_fit}
use Rattle.flat_types.proofs.FlowStays.{EachTyped, stmt_stays, first_typed, later_typed}
use Rattle.hoisting.specs.Stages.{locals_behind}
use Rattle.hoisting.specs.HoistStatements.{Flattened, code_if, followed, opened, flat_all}
use Rattle.typed_hoisting.specs.TypedHoisting.{code_fits}
use Rattle.typed_hoisting.proofs.EnvironmentLaws.{free_later}
use Rattle.typed_hoisting.proofs.PassingPoints.{passes_both}
use Rattle.typed_hoisting.proofs.GoodParts.{numbered_up, numbered_both, among_first, among_rest, code_then}
use Rattle.typed_hoisting.proofs.CallsKeep.{Own}
use Rattle.typed_methods.proofs.KnownWays.{MetUnder}
use Rattle.typed_methods.proofs.StoredKnown.{free_same}
use Rattle.typed_methods.proofs.KeptParts.{in_loop_if}
use Rattle.typed_methods.proofs.FlowKept.{or_left, or_right}
use Rattle.typed_methods.proofs.BegunAnew.{way_at, LeadsTo, stmt_anew}
use Rattle.typed_methods.proofs.WaysOn.{all_left_on}
use Rattle.typed_methods.proofs.Floors.{Floors, all_floors, EachForgets, each_first, each_rest, each_under, each_begun, each_stmt}
use Rattle.typed_methods.proofs.CodeLaws.{stage, at_as, typed_same, GoodCode}
use Rattle.typed_methods.proofs.SimpleKeep.{EachVariable, Begins, GoodOpened, pass_good, break_good, continue_good, do_good, return_good, raise_good, assert_good, assign_local, assign_field}
use Rattle.typed_methods.proofs.AugmentKeep.{augment_local, augment_field}
use Rattle.typed_methods.proofs.StillKeep.{still_keeps}
use Rattle.typed_methods.proofs.PointsBehind.{behind_is}
use Rattle.typed_methods.proofs.ArmsKeep.{GoodAll, GoodArms, no_arms, arm_step, if_good}
use Rattle.typed_methods.proofs.WhilesKeep.{while_good}
use Rattle.typed_methods.proofs.RangesKeep.{range_good}
use Rattle.typed_methods.proofs.ListsKeep.{list_good}

module _ (c : Context) (leaves : Leaving) (own : Own leaves) (limit : ℕ) (outside : c.in_loop ≡ false) (method : is_some c.method ≡ true) where
  abbrev asks : PlainStmt → Bool
  asks x = stmt_suspends leaves x || jumps x

  abbrev flattened : PlainStmt → Way → ℕ → Flattened (List PlainFlatStmt)
  flattened x w n = code_if (not (asks x)) x (stage w n) (opened leaves c x (stage w n))

  abbrev Whenever : PlainStmt → ((looping : Bool) (floor : Floors) (w : Way) (n : ℕ) (end : Way) → Type 1) → Type 1
  Whenever x P =
      (looping : Bool) (floor : Floors) (w : Way) (n : ℕ) (end : Way) → Begins limit floor w n → EachVariable w.locals (assigns x) → EachForgets (all_floors floor) (assigns x) → flow (in_loop_if c looping) w x ≡ Ok end → P looping floor w n end

  -- a statement that is opened, and one as it becomes flat
  abbrev GoodIfOpened : PlainStmt → Type 1
  GoodIfOpened x = Whenever x (λ looping floor w n end. GoodOpened c leaves own limit x looping floor w n end)

  abbrev GoodStmt : PlainStmt → Type 1
  GoodStmt x = Whenever x (λ looping floor w n end. GoodCode c leaves looping floor w n (flattened x w n).code (flattened x w n).next end (goes_on x) (breaks x))

  either_way : (x : PlainStmt) → StmtNames limit x → EachStmt RaisesFailure x → GoodIfOpened x → GoodStmt x
  either_way x named raises good looping floor w n end b variables forgets h = by (asks x) refl
    where
      by : (o : Bool) → asks x ≡ o
          → GoodCode c leaves looping floor w n (code_if (not o) x (stage w n) (opened leaves c x (stage w n))).code (code_if (not o) x (stage w n) (opened leaves c x (stage w n))).next end (goes_on x) (breaks x)
      by true e = good looping floor w n end b variables forgets h
      by false e = still_keeps c leaves limit outside x named raises e looping floor w n end b variables forgets.1 h

  none_good : GoodAll c leaves own limit PNoStmt
  unfolding flow opened stmts_fit goes_on breaks PointsPass
  none_good looping floor w n end b variables forgets h = record {
    made = [];
    numbered = refl;
    points = λ variables among typed. tt;
    fits = λ m among typed env at ways goal goes. goes refl env (at_as m.variables w.locals end.locals env (ap (λ (v : Way). v.locals) (same_ok w end h)) at);
  }

  -- one statement, and those behind it
  then_good : (x : PlainStmt) (xs : PlainStmts) → GoodStmt x → GoodAll c leaves own limit xs → GoodAll c leaves own limit (PStmt x xs)
  unfolding opened stmts_fit goes_on breaks assigns
  then_good x xs good_x good_xs looping floor w n end b variables forgets h =
      let d : Context = in_loop_if c looping in
      let p : (mid : Way) × (flow d w x ≡ Ok mid) × (cond (goes_on x) (flow_all d mid xs) (done mid) ≡ Ok end) = all_parts d w end x xs h in
      let in_x : EachVariable w.locals (assigns x) = first_typed (shapes w.locals) (assigns x) (cond (goes_on x) (assigned_in xs) []) variables in
      by (goes_on x) p.0 p.1 p.2 in_x (later_typed (shapes w.locals) (assigns x) (cond (goes_on x) (assigned_in xs) []) variables) (each_rest (all_floors floor) (assigns x) (cond (goes_on x) (assigned_in xs) []) forgets)
      (good_x looping floor w n p.0 b in_x (each_first (all_floors floor) (assigns x) (cond (goes_on x) (assigned_in xs) []) forgets) p.1)
      (each_first (all_floors floor) (assigns x) (cond (goes_on x) (assigned_in xs) []) forgets)
    where
      by : (go : Bool) (mid : Way) → flow (in_loop_if c looping) w x ≡ Ok mid → cond go (flow_all (in_loop_if c looping) mid xs) (done mid) ≡ Ok end → EachVariable w.locals (assigns x) → EachVariable w.locals (cond go (assigned_in xs) []) → EachForgets (all_floors floor) (cond go (assigned_in xs) [])
          → GoodCode c leaves looping floor w n (flattened x w n).code (flattened x w n).next mid go (breaks x) → EachForgets (all_floors floor) (assigns x)
          → GoodCode c leaves looping floor w n (followed go (flattened x w n) (λ next. flat_all leaves c xs (record { locals = locals_behind c x w.locals; next = next }))).code
          (followed go (flattened x w n) (λ next. flat_all leaves c xs (record { locals = locals_behind c x w.locals; next = next }))).next end (go && all_go_on xs) (breaks x || (go && break_in xs))
      by false mid hx hxs in_x in_xs f_xs g f_x = record {
        made = g.made;
        numbered = g.numbered;
        points = g.points;
        fits = λ m among typed env at ways goal goes.
            g.fits m among typed env at
            (record { at_break = λ left env are met. ways.at_break (or_left (breaks x) false left) env are (subst (λ (v : Way). MetUnder (shapes v.locals) v.breaks env) (same_ok mid end hxs) met); at_continue = ways.at_continue; at_caught = ways.at_caught }) goal
            (λ e. absurd cc);
      }
      by true mid hx hxs in_x in_xs f_xs g f_x =
          let d : Context = in_loop_if c looping in
          let f : Flattened (List PlainFlatStmt) = flattened x w n in
          let same : shapes mid.locals ≡ shapes w.locals = (stmt_stays x d w mid hx).same in_x in
          let up : n ≤ f.next = numbered_up n g.made f.next g.numbered in
          let anew : LeadsTo mid (flow d (way_at w.locals None) x) = stmt_anew c x looping looping w mid None (λ j t. t) hx in
          let begins : Begins limit floor mid f.next = record {
            below = omega (arith, b.below, up);
            free = free_same f.next w.locals mid.locals same (free_later n f.next w.locals up b.free);
            above = each_under (all_floors floor) (way_at mid.locals anew.0) (each_stmt (all_floors floor) x d (begun w.locals) (way_at mid.locals anew.0) f_x (each_begun (all_floors floor) w.locals b.above) anew.1);
          } in
          let rest : List PlainLocal → Flattened (List PlainFlatStmt) = λ ls. flat_all leaves c xs (record { locals = ls; next = f.next }) in
          let gx : GoodCode c leaves looping floor mid f.next (rest (locals_behind c x w.locals)).code (rest (locals_behind c x w.locals)).next end (all_go_on xs) (break_in xs) =
          subst (λ ls. GoodCode c leaves looping floor mid f.next (rest ls).code (rest ls).next end (all_go_on xs) (break_in xs)) (sym (behind_is c looping w mid x hx))
          (good_xs looping floor mid f.next end begins (subst (λ ss. EachTyped ss (assigned_in xs)) (sym same) in_xs) f_xs hxs) in
          let next : ℕ = (rest (locals_behind c x w.locals)).next in
          record {
            made = g.made ++ gx.made;
            numbered = numbered_both n g.made gx.made f.next next g.numbered gx.numbered;
            points = λ variables among typed.
                passes_both variables f.code (rest (locals_behind c x w.locals)).code (g.points variables (among_first variables g.made gx.made among) typed)
                (gx.points variables (among_rest variables g.made gx.made among) (typed_same variables w.locals mid.locals same typed));
            fits = λ m among typed env at ways goal goes.
                code_then c leaves m f.code (rest (locals_behind c x w.locals)).code goal env
                (g.fits m (among_first m.variables g.made gx.made among) typed env at
                (record { at_break = λ left env are met. ways.at_break (or_left (breaks x) (break_in xs) left) env are (all_left_on env xs d mid end hxs met); at_continue = ways.at_continue; at_caught = ways.at_caught })
                (code_fits c leaves m (rest (locals_behind c x w.locals)).code goal)
                (λ go after there.
                gx.fits m (among_rest m.variables g.made gx.made among) (typed_same m.variables w.locals mid.locals same typed) after there
                (record { at_break = λ left env are met. ways.at_break (or_right (breaks x) (break_in xs) left) env are met; at_continue = ways.at_continue; at_caught = ways.at_caught }) goal goes));
          }

  mutual
    unfolding StmtNames EachStmt assigns

    opened_good : (x : PlainStmt) → StmtNames limit x → EachStmt RaisesFailure x → GoodIfOpened x
    opened_good (PPass at) named raises = λ looping floor w n end b variables forgets h. pass_good c leaves own limit looping floor w n b end at h
    opened_good (PBreak at) named raises = λ looping floor w n end b variables forgets h. break_good c leaves own limit looping floor w n b end at h
    opened_good (PContinue at) named raises = λ looping floor w n end b variables forgets h. continue_good c leaves own limit looping floor w n b end at h
    opened_good (PDo at e) named raises = λ looping floor w n end b variables forgets h. do_good c leaves own limit looping floor w n b end at e named h
    opened_good (PReturn at e) named raises = λ looping floor w n end b variables forgets h. return_good c leaves own limit looping floor w n b end at e named h
    opened_good (PRaise at kind e) named raises = λ looping floor w n end b variables forgets h. raise_good c leaves own limit looping floor w n b end at kind e named raises h
    opened_good (PAssert at test e) named raises = λ looping floor w n end b variables forgets h. assert_good c leaves own limit looping floor w n b end at test e named h
    opened_good (PAssign at (Local x) ty e) named raises = λ looping floor w n end b variables forgets h. assign_local c leaves own limit looping floor w n b end at x ty e named variables forgets.1 h
    opened_good (PAssign at (Field f) ty e) named raises = λ looping floor w n end b variables forgets h. assign_field c leaves own limit looping floor w n b end method at f ty e named h
    opened_good (PAugment at (Local x) op op_at e) named raises = λ looping floor w n end b variables forgets h. augment_local c leaves own limit looping floor w n b end at x op op_at e named variables forgets.1 h
    opened_good (PAugment at (Field f) op op_at e) named raises = λ looping floor w n end b variables forgets h. augment_field c leaves own limit looping floor w n b end at f op op_at e named h
    opened_good (PIf at arms other) named raises = λ looping floor w n end b variables forgets h.
        if_good c leaves own limit at arms other (arms_good arms named.0 raises.1) (all_good other named.1 raises.2) looping floor w n end b variables forgets h
    opened_good (PWhile at test body) named raises = λ looping floor w n end b variables forgets h. while_good c leaves own limit at test body named.0 (all_good body named.1 raises.1) looping floor w n end b variables forgets.1 h
    opened_good (PFor at name name_at (PItems e) body) named raises = λ looping floor w n end b variables forgets h. list_good c leaves own limit at name name_at e body named (all_good body named.2 raises.1) looping floor w n end b variables forgets.1 h
    opened_good (PFor at name name_at (PRange from to) body) named raises = λ looping floor w n end b variables forgets h.
        range_good c leaves own limit at name name_at from to body named (all_good body named.2 raises.1) looping floor w n end b variables forgets.1 h

    pub all_good : (xs : PlainStmts) → StmtsNames limit xs → EachOfStmts RaisesFailure xs → GoodAll c leaves own limit xs
    all_good PNoStmt named raises = none_good
    all_good (PStmt x xs) named raises = then_good x xs (either_way x named.0 raises.0 (opened_good x named.0 raises.0)) (all_good xs named.1 raises.1)

    arms_good : (arms : PlainArms) → ArmsNames limit arms → EachOfArms RaisesFailure arms → GoodArms c leaves own limit arms
    arms_good PNoArm named raises = no_arms c leaves own limit
    arms_good (PMoreArms (PArm test body) more) named raises = arm_step c leaves own limit test body more named.0.0 (all_good body named.0.1 raises.0) (arms_good more named.1 raises.1)
