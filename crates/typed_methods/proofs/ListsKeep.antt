-- A `for` over a list keeps the rules where calls come out of it, if its body does.
use Rattle.std.proofs.Common.{◌≡◌, ◌≤◌, ◌<◌, ◌+◌, pos, arith, ℕ, Bool, true, false, Some, None, Ok, List, [], ◌∷◌, ◌++◌, refl, sym, ap, ◌∙◌, subst}
use Rattle.std.specs.Prelude.{◌==◌, option_map, codes}
use Rattle.py_tree.specs.declared.names.Place.{Place}
use Rattle.py_tree.specs.declared.expr.Cmp.TheVariants as cmp
use Rattle.py_tree.specs.ReservedNames.{reserved_number}
use Rattle.py_tree.specs.Bounded.{StmtNames}
use Rattle.py_tree.specs.PlainTypes.{PlainTy, TInt, TBool, TList}
use Rattle.py_tree.specs.PlainExpressions.{PlainExpr, PInt, PVar, PList, PIndex, PApply, PCompare, PNoExpr, PExpr}
use Rattle.py_tree.specs.PlainStatements.{PlainOver, PItems, PFor, PlainStmts}
use Rattle.py_tree.specs.FlowEnvironment.{PlainLocal}
use Rattle.py_tree.specs.Reachability.{goes_on, breaks, assigned_in}
use Rattle.py_tree.specs.Flow.{Context, type_at, with_local, Way, flow}
use Rattle.call_graph.specs.SuspendingCode.{Leaving}
use Rattle.program_meaning.proofs.TypedParts.{lists}
use Rattle.program_meaning.proofs.FlowParts.{items_ok}
use Rattle.program_meaning.proofs.FlowGrows.{ForParts, for_parts}
use Rattle.block_code.specs.PlainVars.{PlainVar}
use Rattle.block_code.specs.GraphFits.{Asked}
use Rattle.flat_tree.specs.PlainFlat.{PlainFlatStmt, FMark, FSet, FWhile, flat_stmts_of}
use Rattle.method_splitter.specs.Points.{PointsPass}
use Rattle.flat_types.specs.FlatTypes.{stmts_fit}
use Rattle.hoisting.specs.Stages.{Stage, surely, temporary, found_ty, item_ty, point_behind}
use Rattle.hoisting.specs.HoistExpressions.{Hoisted, settled, forms}
use Rattle.hoisting.specs.HoistStatements.{Flattened, opened, flat_all, plus, list_stage, head_locals, body_stage, list_test, list_turn, list_loop}
use Rattle.typed_hoisting.specs.KnownLocals.{seen, seen_of, Kept, Free}
use Rattle.typed_hoisting.specs.TypedHoisting.{AreAmong, Adds, Around, SuppliesAll, Typed, Good}
use Rattle.typed_hoisting.proofs.LocalLaws.{apart, kept_seen}
use Rattle.typed_hoisting.proofs.Assignable.{assigned_itself}
use Rattle.typed_hoisting.proofs.EnvironmentLaws.{more_alike, more_free, temporary_local, temporary_seen}
use Rattle.typed_hoisting.proofs.PointLaws.{IsVariable}
use Rattle.typed_hoisting.proofs.GuardedItems.{mark_guarded}
use Rattle.typed_hoisting.proofs.PassingPoints.{passes_both}
use Rattle.typed_hoisting.proofs.GoodParts.{made_var, up, numbered_both, among_first, among_rest, adds_on, adds_temporary, settled_unless_good, code_then}
use Rattle.typed_hoisting.proofs.TypedKinds.{index_typed}
use Rattle.typed_hoisting.proofs.CallsKeep.{Own}
use Rattle.typed_methods.proofs.StoredKnown.{AllKept, TypedThere, all_under, given_as, kept_free}
use Rattle.typed_methods.proofs.KeptParts.{in_loop_if}
use Rattle.typed_methods.proofs.Floors.{Floors, EachForgets, EachUnder, each_on}
use Rattle.typed_methods.proofs.CodeLaws.{stage, At, TypedAs, guards_above, supplied_at, all_kept_on, to_stands, from_stands, ty_as, as_ty, are_typed, GoodCode}
use Rattle.typed_methods.proofs.SimpleKeep.{EachVariable, Begins, forms_good, GoodOpened}
use Rattle.typed_methods.proofs.ArmsKeep.{GoodAll}
use Rattle.typed_methods.proofs.StoredAt.{with_type, stored_itself, stored_other, stored_at, more_at, seen_at, head_type, set_fits, as_has, variable_reads, int_typed, empty_typed, plus_typed, less_typed, length_typed}
use Rattle.typed_methods.proofs.ForLoops.{head, made_inside, numbered_inside, loop_passes, loop_fits, counted_turn}
use Rattle.typed_methods.proofs.RangesKeep.{added_there, added_typed}

-- Three temporaries behind some locals: a list, the place in it, and an empty list

module _ (u : PlainTy) (t : ℕ) (before : List PlainLocal) (free : Free t before) where
  abbrev list_ty : PlainTy
  list_ty = TList u

  abbrev with_list : List PlainLocal
  with_list = before ++ temporary t list_ty ∷ []

  abbrev with_place : List PlainLocal
  with_place = with_list ++ temporary (t + 1) TInt ∷ []

  abbrev with_both : List PlainLocal
  with_both = with_place ++ temporary (t + 1 + 1) list_ty ∷ []

  abbrev two_made : List PlainVar
  two_made = made_var (t + 1) TInt ∷ made_var (t + 1 + 1) list_ty ∷ []

  free_list : Free (t + 1) with_list
  free_list = more_free t before list_ty free

  free_place : Free (t + 1 + 1) with_place
  free_place = more_free (t + 1) with_list TInt free_list

  free_both : Free (t + 1 + 1 + 1) with_both
  free_both = more_free (t + 1 + 1) with_place list_ty free_place

  two_add : Adds two_made with_list with_both
  two_add = adds_on (made_var (t + 1) TInt ∷ []) (made_var (t + 1 + 1) list_ty ∷ []) with_list with_place with_both (adds_temporary (t + 1) TInt with_list) (adds_temporary (t + 1 + 1) list_ty with_place)

  kept_place : AllKept with_list with_place
  kept_place = kept_free (t + 1) with_list with_place free_list (more_alike (t + 1) with_list TInt)

  kept_both : AllKept with_place with_both
  kept_both = kept_free (t + 1 + 1) with_place with_both free_place (more_alike (t + 1 + 1) with_place list_ty)

  list_seen : seen with_list t ≡ with_type list_ty
  list_seen = temporary_seen t before list_ty free

  list_there : seen with_both t ≡ with_type list_ty
  list_there = kept_seen (seen with_place t) (seen with_both t) _ (kept_both t) (kept_seen (seen with_list t) (seen with_place t) _ (kept_place t) list_seen)

  place_there : seen with_both (t + 1) ≡ with_type TInt
  place_there = kept_seen (seen with_place (t + 1)) (seen with_both (t + 1)) _ (kept_both (t + 1)) (temporary_seen (t + 1) with_list TInt free_list)

  second_is : t + 1 + 1 ≡ t + 2
  second_is = omega arith

  differ : (a b : ℕ) → a < b → (a == b) ≡ false
  differ a b less = apart a b (λ e. omega (arith, less, e))

  unseen : (x : ℕ) → t + 1 ≤ x → (s : _) → Kept (seen with_list x) (Some s)
  unseen x later s = subst (λ o. Kept o (Some s)) (sym (ap seen_of (free_list.free x later))) tt

  module _ (c : Context) (leaves : Leaving) (at : Place) (m : Around) (among : AreAmong m.variables two_made) (is_list : IsVariable m.variables t list_ty)
      (supplied : (env : List PlainLocal) → At m.variables with_list env → SuppliesAll m.caught env) where
    is_place : IsVariable m.variables (t + 1) TInt
    is_place = among.0

    is_second : IsVariable m.variables (t + 2) list_ty
    is_second = subst (λ q. IsVariable m.variables q list_ty) second_is among.1.0

    -- the list is copied, and its first place is 0
    starts : (env : List PlainLocal) → At m.variables with_list env → (rest : PlainFlatStmt) (goal : Asked) → ((after : List PlainLocal) → At m.variables with_both after → stmts_fit c leaves m.variables m.caught m.breaks m.continues (flat_stmts_of (rest ∷ [])) goal after)
        → stmts_fit c leaves m.variables m.caught m.breaks m.continues
        (flat_stmts_of (FSet (t + 2) (PList at PNoExpr) ∷ FSet t (plus at (PVar at (t + 2)) (PVar at t)) ∷ FSet (t + 1) (PInt at (pos 0)) ∷ rest ∷ [])) goal env
    unfolding stmts_fit
    starts env at1 rest goal goes =
        let vs : List PlainVar = m.variables in
        let q : ℕ = t + 2 in
        let env2 : List PlainLocal = with_local q list_ty list_ty env in
        let at2 : At vs with_list env2 = stored_at vs q list_ty list_ty env at1.are is_second with_list at1.kept (unseen q (omega arith) (given_as list_ty list_ty)) in
        let second2 : seen env2 q ≡ with_type list_ty = stored_itself vs q list_ty list_ty env at1.are is_second in
        let list2 : seen env2 t ≡ with_type list_ty = seen_at vs with_list env2 t list_ty at2 list_seen in
        let env3 : List PlainLocal = with_local t list_ty list_ty env2 in
        let at3 : At vs with_list env3 = stored_at vs t list_ty list_ty env2 at2.are is_list with_list at2.kept (subst (λ o. Kept o (Some (given_as list_ty list_ty))) (sym list_seen) refl) in
        let second3 : seen env3 q ≡ with_type list_ty = stored_other vs t list_ty list_ty env2 at2.are is_list q (differ t q (omega arith)) ∙ second2 in
        let env4 : List PlainLocal = with_local (t + 1) TInt TInt env3 in
        let at4 : At vs with_list env4 = stored_at vs (t + 1) TInt TInt env3 at3.are is_place with_list at3.kept (unseen (t + 1) (omega arith) (given_as TInt TInt)) in
        let place4 : seen env4 (t + 1) ≡ with_type TInt = stored_itself vs (t + 1) TInt TInt env3 at3.are is_place in
        let second4 : seen env4 q ≡ with_type list_ty = stored_other vs (t + 1) TInt TInt env3 at3.are is_place q (differ (t + 1) q (omega arith)) ∙ second3 in
        let at5 : At vs with_place env4 = more_at vs (t + 1) TInt with_list env4 free_list at4 place4 in
        let at6 : At vs with_both env4 = more_at vs (t + 1 + 1) list_ty with_place env4 free_place at5 (ap (seen env4) second_is ∙ second4) in
        set_fits c leaves m q (PList at PNoExpr) list_ty list_ty env (as_has c leaves (Some list_ty) list_ty env (PList at PNoExpr) (empty_typed c leaves env at u)) at1.are is_second (assigned_itself list_ty) (supplied env at1) (supplied env2 at2) _
        (set_fits c leaves m t (plus at (PVar at q) (PVar at t)) list_ty list_ty env2
        (as_has c leaves None list_ty env2 (plus at (PVar at q) (PVar at t))
        (plus_typed c leaves env2 at (PVar at q) (PVar at t) list_ty lists (variable_reads c leaves env2 None at q list_ty second2) (variable_reads c leaves env2 (Some list_ty) at t list_ty list2)))
        at2.are is_list (assigned_itself list_ty) (supplied env2 at2) (supplied env3 at3) _
        (set_fits c leaves m (t + 1) (PInt at (pos 0)) TInt TInt env3 (as_has c leaves None TInt env3 (PInt at (pos 0)) (int_typed c leaves env3 None at (pos 0))) at3.are is_place (assigned_itself TInt) (supplied env3 at3) (supplied env4 at4) _ (goes env4 at6)))

module _ (c : Context) (leaves : Leaving) (own : Own leaves) (limit : ℕ) where
  pub list_good : (at : Place) (name : ℕ) (name_at : Place) (e : PlainExpr) (body : PlainStmts) → StmtNames limit (PFor at name name_at (PItems e) body) → GoodAll c leaves own limit body
      → (looping : Bool) (floor : Floors) (w : Way) (n : ℕ) (end : Way) → Begins limit floor w n → EachVariable w.locals (name ∷ assigned_in body) → EachForgets floor.clauses (name ∷ assigned_in body) → flow (in_loop_if c looping) w (PFor at name name_at (PItems e) body) ≡ Ok end
      → GoodOpened c leaves own limit (PFor at name name_at (PItems e) body) looping floor w n end
  unfolding opened goes_on breaks stmts_fit StmtNames PointsPass
  list_good at name name_at e body named good_body looping floor w n end b variables forgets h =
      let over : PlainOver = PItems e in
      let here : Stage = stage w n in
      let p : ForParts (in_loop_if c looping) w end name name_at over body = for_parts (in_loop_if c looping) w end at name name_at over body h in
      let u : PlainTy = p.item in
      let typed_e : type_at c w.locals None e ≡ Ok (TList u) = items_ok (in_loop_if c looping) w.locals e u p.goes_over in
      let a : Hoisted PlainExpr = (forms leaves c e).value None here in
      let ga : Good c leaves here a (Typed c leaves None (TList u)) = (forms_good c leaves own limit e named.1).value None here (TList u) b.below b.free typed_e in
      let t : ℕ = a.stage.next in
      let before : List PlainLocal = a.stage.locals in
      let s : Hoisted PlainExpr = settled at (TList u) a in
      let gs : Good c leaves here s (Typed c leaves None (TList u)) = settled_unless_good c leaves false here a at None (TList u) (TList u) refl ga in
      let ls : List PlainLocal = with_both u t before ga.free in
      let k : ℕ = t + 1 + 1 + 1 in
      let up_t : n ≤ t = up c leaves here a ga in
      let up_k : n ≤ k = omega (arith, up_t) in
      let kept_w : AllKept w.locals ls =
      all_kept_on w.locals s.stage.locals ls (kept_free n w.locals s.stage.locals b.free gs.alike)
      (all_kept_on s.stage.locals (with_place u t before ga.free) ls (kept_place u t before ga.free) (kept_both u t before ga.free)) in
      let above_s : EachUnder floor.clauses s.stage.locals = each_on floor.clauses w.locals s.stage.locals b.above.1 (all_under w.locals s.stage.locals (kept_free n w.locals s.stage.locals b.free gs.alike)) in
      let there : TypedThere w.locals ls = λ x v f. as_ty ls x v ((two_add u t before ga.free).keeps x v (ty_as s.stage.locals x v (added_there c leaves here s gs x v f))) in
      let free : Free k ls = free_both u t before ga.free in
      let hs : List PlainLocal = head c leaves own limit at name name_at over body named.2 good_body looping floor w n end b variables forgets h ls k up_k kept_w there free in
      let inside_made : List PlainVar = made_inside c leaves own limit at name name_at over body named.2 good_body looping floor w n end b variables forgets h ls k up_k kept_w there free in
      let test : PlainExpr = PCompare at cmp.Lt at (PVar at (t + 1)) (PApply at (reserved_number (codes "len")) (PExpr (PVar at t) PNoExpr)) in
      let element : PlainExpr = PIndex at (PVar at t) (PVar at (t + 1)) in
      let coded : PlainTy → Flattened (List PlainFlatStmt) = λ ty. flat_all leaves c body (body_stage name (item_ty ty) body (list_stage ty a.stage)) in
      let all_code : PlainTy → List PlainFlatStmt = λ ty.
      FMark ∷ (settled at ty a).before ++ list_loop at name t (surely (head_locals name body (list_stage ty a.stage).locals)) (point_behind c (PFor at name name_at over body) w.locals) (coded ty).code in
      let point = surely (head_locals name body (list_stage (TList u) a.stage).locals) in
      let loop : PlainFlatStmt = FWhile point (list_test at t) point (flat_stmts_of (list_turn at name t (coded (TList u)).code)) (point_behind c (PFor at name name_at over body) w.locals) in
      let two : List PlainVar = two_made u t before ga.free in
      let good : GoodCode c leaves looping floor w n (all_code (TList u)) (coded (TList u)).next end true false = record {
        made = gs.made ++ (two ++ inside_made);
        numbered = numbered_both n gs.made (two ++ inside_made) (t + 1) (coded (TList u)).next gs.numbered
            (numbered_both (t + 1) two inside_made k (coded (TList u)).next (refl, (refl, refl)) (numbered_inside c leaves own limit at name name_at over body named.2 good_body looping floor w n end b variables forgets h ls k up_k kept_w there free));
        points = λ vs among typed.
            let among_s : AreAmong vs gs.made = among_first vs gs.made (two ++ inside_made) among in
            let among_r : AreAmong vs (two ++ inside_made) = among_rest vs gs.made (two ++ inside_made) among in
            let typed_s : TypedAs vs s.stage.locals = added_typed c leaves here s gs vs among_s typed in
            let typed_ls : TypedAs vs ls = λ x v f. (two_add u t before ga.free).only vs (among_first vs two inside_made among_r) (λ y z g. typed_s y z (as_ty s.stage.locals y z g)) x v (ty_as ls x v f) in (
              tt,
              passes_both vs s.before _ (gs.points vs among_s (are_typed vs w.locals typed))
                  (tt, (tt, (tt, (loop_passes c leaves own limit at name name_at over body named.2 good_body looping floor w n end b variables forgets h ls k up_k kept_w there free vs (among_rest vs two inside_made among_r) typed typed_ls test (FSet name element ∷ FSet (t + 1) (plus at (PVar at (t + 1)) (PInt at (pos 1))) ∷ []) (tt, (tt, tt)), tt)))),
            );
        fits = λ m among typed env at' ways goal goes.
            let among_s : AreAmong m.variables gs.made = among_first m.variables gs.made (two ++ inside_made) among in
            let among_r : AreAmong m.variables (two ++ inside_made) = among_rest m.variables gs.made (two ++ inside_made) among in
            let among_two : AreAmong m.variables two = among_first m.variables two inside_made among_r in
            let typed_s : TypedAs m.variables s.stage.locals = added_typed c leaves here s gs m.variables among_s typed in
            let typed_ls : TypedAs m.variables ls = λ x v f. (two_add u t before ga.free).only m.variables among_two (λ y z g. typed_s y z (as_ty s.stage.locals y z g)) x v (ty_as ls x v f) in
            let is_list : IsVariable m.variables t (TList u) = typed_s t (TList u) (as_ty s.stage.locals t (TList u) (ap (option_map (λ (l : PlainLocal). l.ty)) (temporary_local t before (TList u) ga.free))) in (
              code_then c leaves m s.before _ goal env
                  (gs.before m among_s env (to_stands m.variables n w.locals env at') (guards_above m floor.clauses ways.at_caught w.locals b.above.1 n b.free) _
                  (λ env1 stands.
                  starts u t before ga.free c leaves at m among_two is_list (supplied_at m floor.clauses ways.at_caught s.stage.locals above_s) env1 (from_stands m.variables (t + 1) s.stage.locals env1 gs.free stands) loop goal
                  (λ env2 at2.
                  loop_fits c leaves own limit at name name_at over body named.2 good_body looping floor w n end b variables forgets h ls k up_k kept_w there free m ways.at_caught (among_rest m.variables two inside_made among_r) typed typed_ls env2 at2 test
                  (FSet name element ∷ FSet (t + 1) (plus at (PVar at (t + 1)) (PInt at (pos 1))) ∷ []) refl
                  (λ env3 at3.
                  as_has c leaves None TBool env3 test
                  (less_typed c leaves env3 at (PVar at (t + 1)) (PApply at (reserved_number (codes "len")) (PExpr (PVar at t) PNoExpr)) (variable_reads c leaves env3 None at (t + 1) TInt (seen_at m.variables hs env3 (t + 1) TInt at3 (head_type _ ls (t + 1) TInt (place_there u t before ga.free))))
                  (length_typed c leaves env3 at (PVar at t) u (variable_reads c leaves env3 None at t (TList u) (seen_at m.variables hs env3 t (TList u) at3 (head_type _ ls t (TList u) (list_there u t before ga.free)))))))
                  (λ inner same caught env3 at3 goal2 goes2.
                  counted_turn c leaves own limit at name name_at over body named.2 good_body looping floor w n end b variables forgets h ls k up_k kept_w there free named.0 inner caught (subst (λ vs. TypedAs vs ls) (sym same) typed_ls) env3 at3 element
                  (index_typed c leaves env3 None at (PVar at t) (PVar at (t + 1)) u (variable_reads c leaves env3 None at t (TList u) (seen_at inner.variables hs env3 t (TList u) at3 (head_type _ ls t (TList u) (list_there u t before ga.free))))
                  (variable_reads c leaves env3 None at (t + 1) TInt (seen_at inner.variables hs env3 (t + 1) TInt at3 (head_type _ ls (t + 1) TInt (place_there u t before ga.free)))))
                  (t + 1) (omega (arith, b.below, up_t)) (place_there u t before ga.free) (subst (λ vs. IsVariable vs (t + 1) TInt) (sym same) among_two.0) goal2 goes2)
                  _ (λ after at_end. goes refl after at_end)))),
              mark_guarded c m.caught env (supplied_at m floor.clauses ways.at_caught w.locals b.above.1 env at'),
            );
      } in
      subst (λ ty. GoodCode c leaves looping floor w n (all_code ty) (coded ty).next end true false) (sym (ap found_ty typed_e)) good
