-- Augmented assignments keep the rules where calls come out of them.
use Rattle.std.proofs.Common.{◌≡◌, ◌≤◌, ◌<◌, arith, ℕ, Bool, true, false, not, cond, Option, Some, None, Ok, List, [], ◌∷◌, refl, sym, ap, ◌∙◌, subst, true≢false}
use Rattle.std.specs.Prelude.{◌==◌, ◌&&◌, is_some, unwrap_or}
use Rattle.py_tree.specs.declared.names.Place.{Place}
use Rattle.py_tree.specs.declared.rule.Rule.TheVariants.{UnknownField, Operand}
use Rattle.py_tree.specs.declared.names.PlacedName.{PlacedName}
use Rattle.py_tree.specs.declared.expr.BinOp.{BinOp}
use Rattle.py_tree.specs.declared.stmt.Target.{Target}
use Rattle.py_tree.specs.declared.stmt.Target.TheVariants.{Local, Field}
use Rattle.py_tree.specs.Bounded.{ExprNames, StmtNames, target_name}
use Rattle.py_tree.specs.PlainTypes.{PlainTy, TList, TEntity}
use Rattle.py_tree.specs.PlainExpressions.{PlainExpr, PVar, PSelf, PAttr, PChain, PLink, PNoLink, PMoreLinks}
use Rattle.py_tree.specs.PlainStatements.{PAugment}
use Rattle.py_tree.specs.ReservedNames.{self_number}
use Rattle.py_tree.specs.FlowEnvironment.{PlainLocal}
use Rattle.py_tree.specs.ExpressionTypes.{assignable, right_wanted, refuse_if, field_of, self_ty, combined, type_of_name, type_of}
use Rattle.py_tree.specs.Reachability.{goes_on, breaks, local_assigned}
use Rattle.py_tree.specs.Flow.{Context, type_at, with_local, keeps, target_read, augmentation, Way, on, flow}
use Rattle.py_tree.proofs.TypeLaws.{same-refl}
use Rattle.call_graph.specs.SuspendingCode.{Leaving, expr_suspends}
use Rattle.program_meaning.proofs.LocalShapes.{shapes, type_in, earlier_is}
use Rattle.program_meaning.proofs.TypedParts.{done, same_ok, found_ok, needs_ok, Joins, numbers, texts, lists}
use Rattle.program_meaning.proofs.FlowParts.{Augments, augments_ok, put_local_ok, put_field_ok}
use Rattle.block_code.specs.GraphFits.{HasType}
use Rattle.method_splitter.specs.Points.{PointsPass}
use Rattle.flat_types.specs.FlatTypes.{stmts_fit}
use Rattle.hoisting.specs.Stages.{Stage, ty_at, found_ty}
use Rattle.hoisting.specs.HoistExpressions.{Hoisted, still, in_turn, settled, forms}
use Rattle.hoisting.specs.HoistStatements.{stored as store, read_of, combination, opened}
use Rattle.typed_hoisting.specs.KnownLocals.{Free}
use Rattle.typed_hoisting.specs.TypedHoisting.{Around, GuardsHold, Typed, Good}
use Rattle.typed_hoisting.proofs.LocalLaws.{read_seen, seen_read}
use Rattle.typed_hoisting.proofs.Assignable.{assigned_itself}
use Rattle.typed_hoisting.proofs.EnvironmentLaws.{kept_at}
use Rattle.typed_hoisting.proofs.PointLaws.{found_local}
use Rattle.typed_hoisting.proofs.StoredLaws.{takes, stored_variables}
use Rattle.typed_hoisting.proofs.GuardedItems.{put_guarded, set_guarded}
use Rattle.typed_hoisting.proofs.GoodParts.{up, still_good, turn_good, settled_unless_good}
use Rattle.typed_hoisting.proofs.TypedKinds.{RunTyped, run_typed, run_stays, one_link_typed}
use Rattle.typed_hoisting.proofs.CallsKeep.{Own}
use Rattle.typed_methods.proofs.StoredKnown.{stored_there}
use Rattle.typed_methods.proofs.KeptParts.{in_loop_if}
use Rattle.typed_methods.proofs.Floors.{Floors, EachForgets, each_stored}
use Rattle.typed_methods.proofs.CodeLaws.{stage, At, CaughtAbove, guards_above, supplied_at, at_as, variable_typed, no_more, no_more_is, behind_good, marked_passes, marked_fits}
use Rattle.typed_methods.proofs.SimpleKeep.{EachVariable, Begins, forms_good, GoodOpened}

-- What joins

pub joins_combined : (o : BinOp) (at : Place) (s t : PlainTy) → Joins o s t → combined o at s t ≡ Ok s
unfolding combined
joins_combined o at _ _ numbers = refl
joins_combined _ at _ _ texts = refl
joins_combined _ at (TList u) _ lists = ap (λ b. refuse_if (not (b && true)) Operand at (Ok (TList u))) (same-refl u)

abbrev is_entity : PlainTy → Bool
is_entity (TEntity k) = true
is_entity _ = false

joins_no_entity : (o : BinOp) (s t : PlainTy) → Joins o s t → is_entity s ≡ false
joins_no_entity o _ _ numbers = refl
joins_no_entity _ _ _ texts = refl
joins_no_entity _ _ _ lists = refl

name_anywhere : (locals : List PlainLocal) (p q : Place) (x : ℕ) (t : PlainTy) → type_of_name locals p x ≡ Ok t → type_of_name locals q x ≡ Ok t
name_anywhere locals p q x t h =
    let s = seen_read locals p x t h in
    read_seen locals q x s.0 s.1 ∙ ap Ok (sym s.2)

module _ (c : Context) (leaves : Leaving) (own : Own leaves) (limit : ℕ) where
  -- Targets as they are read

  read_typed : (locals : List PlainLocal) (at : Place) (x : Target) (o : BinOp) (s t : PlainTy) → Joins o s t → type_at c locals None (target_read at x) ≡ Ok s → type_at c locals None (read_of at x) ≡ Ok s
  unfolding type_of self_ty
  read_typed locals at (Field f) o s t joins h = h
  read_typed locals at (Local x) o s t joins h = by (x.name.0 == self_number) h
    where
      by : (b : Bool) → type_at c locals None (cond b (PSelf x.place) (PVar x.place x.name.0)) ≡ Ok s → type_of_name locals at x.name.0 ≡ Ok s
      by true h = absurd (true≢false (ap is_entity (same_ok _ s h) ∙ joins_no_entity o s t joins))
      by false h = name_anywhere locals x.place at x.name.0 s h

  read_stays : (at : Place) (x : Target) → expr_suspends leaves (read_of at x) ≡ false
  unfolding expr_suspends
  read_stays at (Local x) = refl
  read_stays at (Field f) = refl

  read_names : (at : Place) (x : Target) → target_name x < limit → ExprNames limit (read_of at x)
  unfolding ExprNames
  read_names at (Local x) below = below
  read_names at (Field f) below = (tt, below)

  field_read : (locals : List PlainLocal) (at : Place) (f : PlacedName) (s : PlainTy) → type_at c locals None (PAttr at (PSelf at) f.name.0 f.place) ≡ Ok s → field_of c.tables c.class f.name.0 ≡ Some s
  unfolding type_of
  field_read locals at f s h =
      let p : (t : PlainTy) × (field_of c.tables c.class f.name.0 ≡ Some t) × (done t ≡ Ok s) = needs_ok (field_of c.tables c.class f.name.0) UnknownField f.place (λ t. Ok t) s h in
      p.1 ∙ ap Some (same_ok p.0 s p.2)

  -- The combined value

  combined_good : (w : Way) (n : ℕ) → limit ≤ n → Free n w.locals → (at : Place) (x : Target) (o : BinOp) (op_at : Place) (e : PlainExpr) (s t : PlainTy) → target_name x < limit → ExprNames limit e → Joins o s t
      → type_at c w.locals None (target_read at x) ≡ Ok s → type_at c w.locals (right_wanted o s) e ≡ Ok t → (ty : PlainTy) → ty ≡ s
      → Good c leaves (stage w n) (in_turn (λ left right. PChain at left (PMoreLinks (PLink o op_at right) PNoLink)) (settled at ty (still (read_of at x) (stage w n))) (λ g. (forms leaves c e).value (right_wanted o ty) g)) (Typed c leaves None s)
  combined_good w n below free at x o op_at e s t named_x named_e joins read typed ty same =
      let here : Stage = stage w n in
      let a : Hoisted PlainExpr = settled at s (still (read_of at x) here) in
      let is : type_at c w.locals None (read_of at x) ≡ Ok s = read_typed w.locals at x o s t joins read in
      let ga : Good c leaves here a (Typed c leaves None s) =
      settled_unless_good c leaves false here (still (read_of at x) here) at None s s refl
      (still_good c leaves here (read_of at x) (Typed c leaves None s) free (λ there alike. (kept_at c limit n w.locals there below alike None (read_of at x) s (read_names at x named_x) is, read_stays at x))) in
      let gb : Good c leaves a.stage ((forms leaves c e).value (right_wanted o s) a.stage) (Typed c leaves (right_wanted o s) t) =
      (forms_good c leaves own limit e named_e).value (right_wanted o s) a.stage t (omega (arith, below, up c leaves here a ga)) ga.free (kept_at c limit n w.locals a.stage.locals below ga.alike (right_wanted o s) e t named_e typed) in
      subst (λ u. Good c leaves here (in_turn (λ left right. PChain at left (PMoreLinks (PLink o op_at right) PNoLink)) (settled at u (still (read_of at x) here)) (λ g. (forms leaves c e).value (right_wanted o u) g)) (Typed c leaves None s)) (sym same)
      (turn_good c leaves here (λ left right. PChain at left (PMoreLinks (PLink o op_at right) PNoLink)) a (λ g. (forms leaves c e).value (right_wanted o s) g) (Typed c leaves None s) ga gb
      (λ there l r.
      let run : RunTyped c leaves s there (a.rest, PLink o op_at ((forms leaves c e).value (right_wanted o s) a.stage).rest ∷ []) = (l, one_link_typed c leaves s t there o op_at ((forms leaves c e).value (right_wanted o s) a.stage).rest (joins_combined o op_at s t joins) r) in
      (run_typed c leaves s there None at a.rest (PLink o op_at ((forms leaves c e).value (right_wanted o s) a.stage).rest ∷ []) run, run_stays c leaves s there at a.rest (PLink o op_at ((forms leaves c e).value (right_wanted o s) a.stage).rest ∷ []) run)))

  module _ (looping : Bool) (floor : Floors) (w : Way) (n : ℕ) (b : Begins limit floor w n) (end : Way) where
    abbrev d : Context
    d = in_loop_if c looping

    abbrev here : Stage
    here = stage w n

    guard : (m : Around) → CaughtAbove m floor.clauses → GuardsHold m n w.locals
    guard m caught = guards_above m floor.clauses caught w.locals b.above.1 n b.free

    pub augment_local : (at : Place) (x : PlacedName) (o : BinOp) (op_at : Place) (e : PlainExpr) → StmtNames limit (PAugment at (Local x) o op_at e) → EachVariable w.locals (local_assigned (Local x)) → EachForgets floor.clauses (local_assigned (Local x)) → flow d w (PAugment at (Local x) o op_at e) ≡ Ok end
        → GoodOpened c leaves own limit (PAugment at (Local x) o op_at e) looping floor w n end
    unfolding flow opened goes_on breaks StmtNames stmts_fit PointsPass
    augment_local at x o op_at e named variable forgets h =
        let p : (ls : List PlainLocal) × (augmentation d w.locals at (Local x) o op_at e ≡ Ok ls) × (done (on w ls) ≡ Ok end) = found_ok (augmentation d w.locals at (Local x) o op_at e) (λ ls. Ok (on w ls)) end h in
        let q : Augments d w.locals at (Local x) o op_at e p.0 = augments_ok d w.locals at (Local x) o op_at e p.0 p.1 in
        let put = put_local_ok d w.locals x q.before p.0 q.put in
        let a : Hoisted PlainExpr = combination leaves c at (Local x) o op_at e here in
        let g : Good c leaves here a (Typed c leaves None q.before) = combined_good w n b.below b.free at (Local x) o op_at e q.before q.other named.0 named.1 q.joins q.read q.typed (ty_at c None w.locals (target_read at (Local x))) (ap found_ty q.read) in
        let has = there (type_in (shapes w.locals) x.name.0) variable.0 q.before (ap (keeps q.before) (sym (earlier_is w.locals x)) ∙ put.0) in
        let is : with_local x.name.0 q.before q.before w.locals ≡ end.locals = put.1 ∙ ap (λ (v : Way). v.locals) (same_ok (on w p.0) end p.2) in
        record {
          made = g.made;
          numbered = g.numbered;
          points = λ variables among typed. marked_passes c leaves here a (store (Local x) a.rest) g variables among typed tt;
          fits = λ m among typed env at' ways goal goes.
              marked_fits c leaves here a (store (Local x)) g m among (guard m ways.at_caught) env at' goal
              (λ after stands rest supplied.
              let before : At m.variables w.locals after = behind_good c leaves here a m.variables after b.free g stands in
              let variable = typed x.name.0 has.0 has.1 in
              let after2 : List PlainLocal = with_local x.name.0 q.before q.before after in
              let behind : At m.variables (with_local x.name.0 q.before q.before w.locals) after2 = record {
                are = stored_variables m.variables x.name.0 has.0 q.before after before.are variable;
                kept = stored_there x.name.0 q.before q.before q.before w.locals after (variable_typed m.variables after x.name.0 has.0 before.are variable ∙ sym (ap (λ o. Some (unwrap_or o q.before)) has.1)) before.kept;
              } in
              let typed_rest : HasType c leaves after a.rest q.before = record { wanted = None; typed = rest.0; stays = rest.1 } in (
                (
                  q.before,
                  typed_rest,
                  takes m.variables x.name.0 has.0 q.before after before.are variable has.2 (no_more c leaves m goal) (no_more_is c leaves m goal after2 (goes refl after2 (at_as m.variables _ end.locals after2 is behind))),
                ),
                set_guarded c leaves m.variables x.name.0 a.rest q.before has.0 after typed_rest (found_local m.variables after x.name.0 has.0 before.are variable) m.caught supplied
                    (supplied_at m floor.clauses ways.at_caught (with_local x.name.0 q.before q.before w.locals) (each_stored floor.clauses x.name.0 q.before q.before w.locals forgets b.above.1) after2 behind),
              ));
        }
      where
        there : (o : Option PlainTy) → is_some o ≡ true → (s : PlainTy) → keeps s o ≡ true → (t : PlainTy) × (o ≡ Some t) × (assignable s t ≡ true)
        there (Some t) e s k = (t, refl, k)
        there None e s k = absurd (true≢false (sym e))

    pub augment_field : (at : Place) (f : PlacedName) (o : BinOp) (op_at : Place) (e : PlainExpr) → StmtNames limit (PAugment at (Field f) o op_at e) → flow d w (PAugment at (Field f) o op_at e) ≡ Ok end → GoodOpened c leaves own limit (PAugment at (Field f) o op_at e) looping floor w n end
    unfolding flow opened goes_on breaks StmtNames stmts_fit PointsPass
    augment_field at f o op_at e named h =
        let p : (ls : List PlainLocal) × (augmentation d w.locals at (Field f) o op_at e ≡ Ok ls) × (done (on w ls) ≡ Ok end) = found_ok (augmentation d w.locals at (Field f) o op_at e) (λ ls. Ok (on w ls)) end h in
        let q : Augments d w.locals at (Field f) o op_at e p.0 = augments_ok d w.locals at (Field f) o op_at e p.0 p.1 in
        let a : Hoisted PlainExpr = combination leaves c at (Field f) o op_at e here in
        let g : Good c leaves here a (Typed c leaves None q.before) = combined_good w n b.below b.free at (Field f) o op_at e q.before q.other named.0 named.1 q.joins q.read q.typed (ty_at c None w.locals (target_read at (Field f))) (ap found_ty q.read) in
        let is : w.locals ≡ end.locals = put_field_ok d w.locals f q.before p.0 q.put ∙ ap (λ (v : Way). v.locals) (same_ok (on w p.0) end p.2) in
        record {
          made = g.made;
          numbered = g.numbered;
          points = λ variables among typed. marked_passes c leaves here a (store (Field f) a.rest) g variables among typed tt;
          fits = λ m among typed env at' ways goal goes.
              marked_fits c leaves here a (store (Field f)) g m among (guard m ways.at_caught) env at' goal
              (λ after stands rest supplied. (
                (
                  record { ty = q.before; is = field_read w.locals at f q.before q.read; fits = record { ty = q.before; has = record { wanted = None; typed = rest.0; stays = rest.1 }; suits = assigned_itself q.before } },
                  no_more_is c leaves m goal after (goes refl after (at_as m.variables w.locals end.locals after is (behind_good c leaves here a m.variables after b.free g stands))),
                ),
                put_guarded c m.caught f.name.0 a.rest after supplied,
              ));
        }
