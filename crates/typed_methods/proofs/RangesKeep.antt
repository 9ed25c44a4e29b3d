-- A `for` over a range keeps the rules where calls come out of it, if its body does.
use Rattle.std.proofs.Common.{◌≡◌, ◌≤◌, pos, arith, ℕ, Bool, true, false, Option, Some, None, Ok, List, [], ◌∷◌, ◌++◌, refl, sym, ap, subst}
use Rattle.std.specs.Prelude.{⊤, option_map, IfSome}
use Rattle.py_tree.specs.declared.names.Place.{Place}
use Rattle.py_tree.specs.Bounded.{ExprNames, StmtNames}
use Rattle.py_tree.specs.PlainTypes.{PlainTy, TInt, TBool}
use Rattle.py_tree.specs.PlainExpressions.{PlainExpr, PInt, PVar, PPos, PCompare}
use Rattle.py_tree.specs.declared.expr.Cmp.TheVariants as cmp
use Rattle.py_tree.specs.PlainStatements.{PlainOver, PRange, PFor, PlainStmts}
use Rattle.py_tree.specs.FlowEnvironment.{PlainLocal}
use Rattle.py_tree.specs.ExpressionTypes.{type_of}
use Rattle.py_tree.specs.Reachability.{goes_on, breaks, assigned_in}
use Rattle.py_tree.specs.Flow.{Context, type_at, with_local, item_of, Way, flow}
use Rattle.call_graph.specs.SuspendingCode.{Leaving}
use Rattle.program_meaning.proofs.FlowParts.{short_range_ok, range_ok}
use Rattle.program_meaning.proofs.FlowGrows.{ForParts, for_parts}
use Rattle.block_code.specs.PlainVars.{PlainVar}
use Rattle.flat_tree.specs.PlainFlat.{PlainFlatStmt, FMark, FSet}
use Rattle.method_splitter.specs.Points.{PointsPass}
use Rattle.flat_types.specs.FlatTypes.{stmts_fit}
use Rattle.hoisting.specs.Stages.{Stage, surely, point_behind}
use Rattle.hoisting.specs.HoistExpressions.{Hoisted, built, in_turn, settled, forms}
use Rattle.hoisting.specs.HoistStatements.{Flattened, opened, flat_all, plus, start_or_zero, head_locals, range_loop}
use Rattle.typed_hoisting.specs.KnownLocals.{HasTy, seen, Free}
use Rattle.typed_hoisting.specs.TypedHoisting.{AreAmong, Typed, Good}
use Rattle.typed_hoisting.proofs.LocalLaws.{kept_seen}
use Rattle.typed_hoisting.proofs.EnvironmentLaws.{kept_at, temporary_local, temporary_seen}
use Rattle.typed_hoisting.proofs.PointLaws.{IsVariable}
use Rattle.typed_hoisting.proofs.GuardedItems.{mark_guarded}
use Rattle.typed_hoisting.proofs.PassingPoints.{passes_both}
use Rattle.typed_hoisting.proofs.GoodParts.{up, numbered_both, among_first, among_rest, built_good, settled_unless_good, turn_good, code_then}
use Rattle.typed_hoisting.proofs.TypedKinds.{pos_typed}
use Rattle.typed_hoisting.proofs.CallsKeep.{Own}
use Rattle.typed_methods.proofs.StoredKnown.{AllKept, TypedThere, kept_free}
use Rattle.typed_methods.proofs.KeptParts.{in_loop_if}
use Rattle.typed_methods.proofs.Floors.{Floors, EachForgets}
use Rattle.typed_methods.proofs.CodeLaws.{stage, TypedAs, guards_above, supplied_at, all_kept_on, to_stands, from_stands, ty_as, as_ty, are_typed, GoodCode}
use Rattle.typed_methods.proofs.SimpleKeep.{EachVariable, Begins, forms_good, GoodOpened}
use Rattle.typed_methods.proofs.ArmsKeep.{GoodAll}
use Rattle.typed_methods.proofs.StoredAt.{with_type, seen_at, head_type, as_has, variable_reads, less_typed}
use Rattle.typed_methods.proofs.ForLoops.{head, made_inside, numbered_inside, loop_passes, loop_fits, counted_turn}

module _ (c : Context) (leaves : Leaving) where
  pub added_there : {R : Type 0} (h : Stage) (a : Hoisted R) {Rest : List PlainLocal → R → Type 0} → Good c leaves h a Rest → TypedThere h.locals a.stage.locals
  added_there h a g x t e = as_ty a.stage.locals x t (g.adds.keeps x t (ty_as h.locals x t e))

  pub added_typed : {R : Type 0} (h : Stage) (a : Hoisted R) {Rest : List PlainLocal → R → Type 0} → (g : Good c leaves h a Rest) → (variables : List PlainVar) → AreAmong variables g.made → TypedAs variables h.locals → TypedAs variables a.stage.locals
  added_typed h a g variables among typed x t e = g.adds.only variables among (λ y u f. typed y u (as_ty h.locals y u f)) x t (ty_as a.stage.locals x t e)

module _ (c : Context) (leaves : Leaving) (own : Own leaves) (limit : ℕ) where
  -- a number, in a temporary
  abbrev pub whole : Place → PlainExpr → Stage → Hoisted PlainExpr
  whole at e h = settled at TInt (built (PPos at) ((forms leaves c e).value None h))

  inner_good : (at : Place) (e : PlainExpr) (h : Stage) → limit ≤ h.next → Free h.next h.locals → ExprNames limit e → type_at c h.locals None e ≡ Ok TInt → Good c leaves h (built (PPos at) ((forms leaves c e).value None h)) (Typed c leaves None TInt)
  inner_good at e h below free named typed =
      built_good c leaves h ((forms leaves c e).value None h) (PPos at) (Typed c leaves None TInt) ((forms_good c leaves own limit e named).value None h TInt below free typed)
      (λ there x. pos_typed c leaves there None at ((forms leaves c e).value None h).rest TInt refl x)

  whole_good : (at : Place) (e : PlainExpr) (h : Stage) → limit ≤ h.next → Free h.next h.locals → ExprNames limit e → type_at c h.locals None e ≡ Ok TInt → Good c leaves h (whole at e h) (Typed c leaves None TInt)
  whole_good at e h below free named typed = settled_unless_good c leaves false h (built (PPos at) ((forms leaves c e).value None h)) at None TInt TInt refl (inner_good at e h below free named typed)

  whole_seen : (at : Place) (e : PlainExpr) (h : Stage) → limit ≤ h.next → Free h.next h.locals → ExprNames limit e → type_at c h.locals None e ≡ Ok TInt
      → (seen (whole at e h).stage.locals ((forms leaves c e).value None h).stage.next ≡ with_type TInt) × HasTy (whole at e h).stage.locals ((forms leaves c e).value None h).stage.next TInt
  whole_seen at e h below free named typed =
      let a : Stage = ((forms leaves c e).value None h).stage in
      let g = inner_good at e h below free named typed in
      (temporary_seen a.next a.locals TInt g.free, ap (option_map (λ (l : PlainLocal). l.ty)) (temporary_local a.next a.locals TInt g.free))

  zero_named : (at : Place) (start : Option PlainExpr) → IfSome start (ExprNames limit) → ExprNames limit (start_or_zero at start)
  unfolding ExprNames
  zero_named at None named = tt
  zero_named at (Some e) named = named

  range_ends : (looping : Bool) (locals : List PlainLocal) (at : Place) (start : Option PlainExpr) (end : PlainExpr) (ty : PlainTy) → item_of (in_loop_if c looping) locals (PRange start end) ≡ Ok ty
      → (type_at c locals None (start_or_zero at start) ≡ Ok TInt) × (type_at c locals None end ≡ Ok TInt) × (ty ≡ TInt)
  unfolding type_of
  range_ends looping locals at None end ty h = let p = short_range_ok (in_loop_if c looping) locals end ty h in (refl, p.0, p.1)
  range_ends looping locals at (Some e) end ty h = range_ok (in_loop_if c looping) locals e end ty h

  pub range_good : (at : Place) (name : ℕ) (name_at : Place) (from : Option PlainExpr) (to : PlainExpr) (body : PlainStmts) → StmtNames limit (PFor at name name_at (PRange from to) body) → GoodAll c leaves own limit body
      → (looping : Bool) (floor : Floors) (w : Way) (n : ℕ) (end : Way) → Begins limit floor w n → EachVariable w.locals (name ∷ assigned_in body) → EachForgets floor.clauses (name ∷ assigned_in body) → flow (in_loop_if c looping) w (PFor at name name_at (PRange from to) body) ≡ Ok end
      → GoodOpened c leaves own limit (PFor at name name_at (PRange from to) body) looping floor w n end
  unfolding opened goes_on breaks stmts_fit StmtNames PointsPass
  range_good at name name_at from to body named good_body looping floor w n end b variables forgets h =
      let over : PlainOver = PRange from to in
      let here : Stage = stage w n in
      let p : ForParts (in_loop_if c looping) w end name name_at over body = for_parts (in_loop_if c looping) w end at name name_at over body h in
      let first : PlainExpr = start_or_zero at from in
      let ends = range_ends looping w.locals at from to p.item p.goes_over in
      let first_named : ExprNames limit first = zero_named at from named.1.0 in
      let a : Hoisted PlainExpr = whole at first here in
      let ga : Good c leaves here a (Typed c leaves None TInt) = whole_good at first here b.below b.free first_named ends.0 in
      let below_a : limit ≤ a.stage.next = omega (arith, b.below, up c leaves here a ga) in
      let typed_to : type_at c a.stage.locals None to ≡ Ok TInt = kept_at c limit n w.locals a.stage.locals b.below ga.alike None to TInt named.1.1 ends.1 in
      let d : Hoisted PlainExpr = whole at to a.stage in
      let gd : Good c leaves a.stage d (Typed c leaves None TInt) = whole_good at to a.stage below_a ga.free named.1.1 typed_to in
      let t : ℕ = ((forms leaves c first).value None here).stage.next in
      let u : ℕ = ((forms leaves c to).value None a.stage).stage.next in
      let seen_t = whole_seen at first here b.below b.free first_named ends.0 in
      let seen_u = whole_seen at to a.stage below_a ga.free named.1.1 typed_to in
      let ls : List PlainLocal = d.stage.locals in
      let k : ℕ = d.stage.next in
      let up_t : n ≤ t = up c leaves here _ (inner_good at first here b.below b.free first_named ends.0) in
      let up_a : a.stage.next ≤ k = up c leaves a.stage d gd in
      let up_k : n ≤ k = omega (arith, up_t, up_a) in
      let kept_w : AllKept w.locals ls = all_kept_on w.locals a.stage.locals ls (kept_free n w.locals a.stage.locals b.free ga.alike) (kept_free a.stage.next a.stage.locals ls ga.free gd.alike) in
      let there : TypedThere w.locals ls = λ x v e. added_there c leaves a.stage d gd x v (added_there c leaves here a ga x v e) in
      let count_t : seen ls t ≡ with_type TInt = kept_seen (seen a.stage.locals t) (seen ls t) _ (kept_free a.stage.next a.stage.locals ls ga.free gd.alike t) seen_t.0 in
      let item_is : p.item ≡ TInt = ends.2 in
      let hs : List PlainLocal = head c leaves own limit at name name_at over body named.2 good_body looping floor w n end b variables forgets h ls k up_k kept_w there gd.free in
      let test : PlainExpr = PCompare at cmp.Lt at (PVar at t) (PVar at u) in
      let inside_made : List PlainVar = made_inside c leaves own limit at name name_at over body named.2 good_body looping floor w n end b variables forgets h ls k up_k kept_w there gd.free in
      let coded : PlainTy → Flattened (List PlainFlatStmt) = λ ty. flat_all leaves c body (record { locals = with_local name ty ty (head_locals name body ls); next = k }) in
      let both : Good c leaves here (in_turn (λ (x y : PlainExpr). x) a (λ g. whole at to g)) (λ there r. ⊤) = turn_good c leaves here (λ x y. x) a (λ g. whole at to g) (λ there r. ⊤) ga gd (λ there x y. tt) in
      let good : GoodCode c leaves looping floor w n (FMark ∷ (a.before ++ d.before) ++ range_loop at name t u (surely (head_locals name body ls)) (point_behind c (PFor at name name_at over body) w.locals) (coded p.item).code) (coded p.item).next end true false = record {
        made = both.made ++ inside_made;
        numbered = numbered_both n both.made inside_made k (coded p.item).next both.numbered (numbered_inside c leaves own limit at name name_at over body named.2 good_body looping floor w n end b variables forgets h ls k up_k kept_w there gd.free);
        points = λ vs among typed.
            let among1 : AreAmong vs both.made = among_first vs both.made inside_made among in
            let typed_ls : TypedAs vs ls = added_typed c leaves here (in_turn (λ (x y : PlainExpr). x) a (λ g. whole at to g)) both vs among1 typed in (
              tt,
              passes_both vs (a.before ++ d.before) _ (both.points vs among1 (are_typed vs w.locals typed))
                  (loop_passes c leaves own limit at name name_at over body named.2 good_body looping floor w n end b variables forgets h ls k up_k kept_w there gd.free vs (among_rest vs both.made inside_made among) typed typed_ls test (FSet name (PVar at t) ∷ FSet t (plus at (PVar at t) (PInt at (pos 1))) ∷ []) (tt, (tt, tt)), tt),
            );
        fits = λ m among typed env at' ways goal goes.
            let among1 : AreAmong m.variables both.made = among_first m.variables both.made inside_made among in
            let typed_ls : TypedAs m.variables ls = added_typed c leaves here (in_turn (λ (x y : PlainExpr). x) a (λ g. whole at to g)) both m.variables among1 typed in
            let is_t : IsVariable m.variables t TInt = typed_ls t TInt (added_there c leaves a.stage d gd t TInt (as_ty a.stage.locals t TInt seen_t.1)) in (
              code_then c leaves m (a.before ++ d.before) _ goal env
                  (both.before m among1 env (to_stands m.variables n w.locals env at') (guards_above m floor.clauses ways.at_caught w.locals b.above.1 n b.free) _
                  (λ env1 stands.
                  loop_fits c leaves own limit at name name_at over body named.2 good_body looping floor w n end b variables forgets h ls k up_k kept_w there gd.free m ways.at_caught (among_rest m.variables both.made inside_made among) typed typed_ls env1 (from_stands m.variables k ls env1 gd.free stands) test
                  (FSet name (PVar at t) ∷ FSet t (plus at (PVar at t) (PInt at (pos 1))) ∷ []) refl
                  (λ env2 at2.
                  as_has c leaves None TBool env2 test
                  (less_typed c leaves env2 at (PVar at t) (PVar at u) (variable_reads c leaves env2 None at t TInt (seen_at m.variables hs env2 t TInt at2 (head_type _ ls t TInt count_t))) (variable_reads c leaves env2 None at u TInt (seen_at m.variables hs env2 u TInt at2 (head_type _ ls u TInt seen_u.0)))))
                  (λ inner same caught env2 at2 goal2 goes2.
                  counted_turn c leaves own limit at name name_at over body named.2 good_body looping floor w n end b variables forgets h ls k up_k kept_w there gd.free named.0 inner caught (subst (λ vs. TypedAs vs ls) (sym same) typed_ls) env2 at2 (PVar at t)
                  (subst (λ ty. Typed c leaves None ty env2 (PVar at t)) (sym item_is) (variable_reads c leaves env2 None at t TInt (seen_at inner.variables hs env2 t TInt at2 (head_type _ ls t TInt count_t))))
                  t (omega (arith, b.below, up_t)) count_t (subst (λ vs. IsVariable vs t TInt) (sym same) is_t) goal2 goes2)
                  _ (λ after at_end. goes refl after at_end))),
              mark_guarded c m.caught env (supplied_at m floor.clauses ways.at_caught w.locals b.above.1 env at'),
            );
      } in
      subst (λ ty. GoodCode c leaves looping floor w n (FMark ∷ (a.before ++ d.before) ++ range_loop at name t u (surely (head_locals name body ls)) (point_behind c (PFor at name name_at over body) w.locals) (coded ty).code) (coded ty).next end true false) item_is good
