-- The parts of a statement have the same types at two points, and what it assigns is accepted again, where the same is known of the
-- variables that they read.
use Rattle.std.proofs.Common.{◌≡◌, ℕ, Bool, true, false, not, cond, Option, Some, None, Ok, List, [], ◌∷◌, length, refl, sym, ap, ◌∙◌, subst}
use Rattle.std.specs.Prelude.{◌==◌, ◌||◌, ◌&&◌, is_some, is_none}
use Rattle.py_tree.specs.declared.names.Place.{Place}
use Rattle.py_tree.specs.declared.names.PlacedName.{PlacedName}
use Rattle.py_tree.specs.declared.rule.RuleFault.{RuleFault}
use Rattle.py_tree.specs.declared.rule.Rule.TheVariants.{TooMany, ReservedName, LocalRetyped, KeyAssigned, UnknownField, InitForm}
use Rattle.py_tree.specs.declared.expr.BinOp.{BinOp}
use Rattle.py_tree.specs.declared.stmt.Target.{Target}
use Rattle.py_tree.specs.declared.stmt.Target.TheVariants.{Local, Field}
use Rattle.py_tree.specs.PlainTypes.{PlainTy, PlainWritten, type_of as type_written}
use Rattle.py_tree.specs.PlainExpressions.{PlainExpr}
use Rattle.py_tree.specs.PlainStatements.{PlainOver, PRange, PItems}
use Rattle.py_tree.specs.ClassRules.{type_fault, broken, first_of, is_reserved, is_full}
use Rattle.py_tree.specs.FlowEnvironment.{PlainLocal, local_of}
use Rattle.py_tree.specs.ExpressionTypes.{same_ty, right_wanted, place_of, as_condition, field_of, with_found}
use Rattle.py_tree.specs.Flow.{Context, type_at, condition_at, value_as, number_at, item_of, fault_in, return_fault, message_fault, is_class_in, local_fault, earlier, keeps, stored, plainly_assigned, assigned_as, local_assigned, is_key_field, field_assigned, field_declared, assigned, target_read, augmented, is_key_target, combined_stored, augmentation, result_at, with_local}
use Rattle.program_meaning.proofs.LocalShapes.{shapes, type_in, earlier_is}
use Rattle.live_laws.specs.Reads.{reads, reads_if_there, over_reads, assigns}
use Rattle.live_laws.proofs.AlikeLocals.{Names, Alike, fewer, same_shapes, alike_with}
use Rattle.live_laws.proofs.AlikeTypes.{AllIn, either, left_in, right_in, then_same, type_same}
use Rattle.live_laws.proofs.Carried.{Carries, carried, carry_same, carry_none, carry_refuse, carry_needs}

-- Names and their number

as_many : (here there : List PlainLocal) → shapes there ≡ shapes here → length there ≡ length here
as_many [] [] e = refl
as_many [] (m ∷ there) e = absurd cc
as_many (l ∷ here) [] e = absurd cc
as_many (l ∷ here) (m ∷ there) e = let rest : shapes there ≡ shapes here = cc in let n : length there ≡ length here = as_many here there rest in cc

untyped_by : (here : List PlainLocal) (x : ℕ) → is_none (local_of here x) ≡ is_none (type_in (shapes here) x)
unfolding local_of
untyped_by [] x = refl
untyped_by (l ∷ here) x = by (l.name == x) (untyped_by here x)
  where
    by : (b : Bool) → is_none (local_of here x) ≡ is_none (type_in (shapes here) x) → is_none (cond b (Some l) (local_of here x)) ≡ is_none (cond b (Some l.ty) (type_in (shapes here) x))
    by true rest = refl
    by false rest = rest

module _ (c : Context) {P : Names} {here there : List PlainLocal} (a : Alike P here there) where
  pub expr_same : (wanted : Option PlainTy) (e : PlainExpr) → AllIn (reads e) P → type_at c here wanted e ≡ type_at c there wanted e
  expr_same wanted e all = type_same c.tables c.class c.method a wanted e all

  pub test_same : (test : PlainExpr) → AllIn (reads test) P → condition_at c here test ≡ condition_at c there test
  test_same test all = ap (as_condition (place_of test)) (expr_same None test all)

  value_same : (wanted : PlainTy) (e : PlainExpr) → AllIn (reads e) P → value_as c here wanted e ≡ value_as c there wanted e
  unfolding value_as
  value_same wanted e all = then_same (expr_same (Some wanted) e all) (λ t. refl)

  number_same : (e : PlainExpr) → AllIn (reads e) P → number_at c here e ≡ number_at c there e
  unfolding number_at
  number_same e all = then_same (expr_same None e all) (λ t. refl)

  pub item_same : (over : PlainOver) → AllIn (over_reads over) P → item_of c here over ≡ item_of c there over
  unfolding item_of
  item_same (PItems e) all = then_same (expr_same None e all) (λ t. refl)
  item_same (PRange None end) all = number_same end all
  item_same (PRange (Some start) end) all = then_same (number_same start (left_in (reads start) (reads end) all)) (λ t. number_same end (right_in (reads start) (reads end) all))

  pub return_same : (at : Place) (e : Option PlainExpr) → AllIn (reads_if_there e) P → return_fault c here at e ≡ return_fault c there at e
  unfolding return_fault
  return_same at None all = refl
  return_same at (Some e) all = ap fault_in (value_same (result_at c) e all)

  pub message_same : (e : Option PlainExpr) → AllIn (reads_if_there e) P → message_fault c here e ≡ message_fault c there e
  unfolding message_fault
  message_same None all = refl
  message_same (Some e) all = ap fault_in (then_same (expr_same None e all) (λ t. refl))

  pub name_same : (x : PlacedName) → local_fault c.tables here x ≡ local_fault c.tables there x
  unfolding local_fault
  name_same x =
      let same : shapes there ≡ shapes here = same_shapes a in
      let fault : Bool → Bool → Option RuleFault = λ untyped full. first_of (broken TooMany x.place (untyped && full) ∷ broken ReservedName x.place (is_reserved x.name.0 || is_class_in c.tables x.name.0) ∷ []) in
      ap (λ b. fault b (is_full (length here))) (untyped_by here x.name.0 ∙ ap (λ ss. is_none (type_in ss x.name.0)) (sym same) ∙ sym (untyped_by there x.name.0))
      ∙ ap (λ n. fault (is_none (local_of there x.name.0)) (is_full n)) (sym (as_many here there same))

  earlier_same : (x : PlacedName) → earlier here x ≡ earlier there x
  earlier_same x = earlier_is here x ∙ ap (λ ss. type_in ss x.name.0) (sym (same_shapes a)) ∙ sym (earlier_is there x)

  -- Assignments, behind which the same is known of the variable

  module _ (Q : Names) where
    abbrev Behind : List PlainLocal → List PlainLocal → Type 0
    Behind ls ms = Alike Q ls ms

    abbrev Others : (ℕ → Bool) → Type 0
    Others is_it = (y : ℕ) → Q y → is_it y ≡ false → P y

    kept_all : Others (λ y. false) → Carries Behind (Ok here) (Ok there)
    kept_all others = carried (fewer (λ y q. others y q refl) a)

    pub stored_alike : (x : PlacedName) (ty : PlainTy) → Others (λ y. x.name.0 == y) → Carries Behind (stored here x ty) (stored there x ty)
    unfolding stored
    stored_alike x ty others =
        carry_refuse Behind (not (keeps ty (earlier here x))) (not (keeps ty (earlier there x))) LocalRetyped x.place (Ok (with_local x.name.0 ty ty here)) (Ok (with_local x.name.0 ty ty there))
        (ap (λ o. not (keeps ty o)) (earlier_same x)) (carried (alike_with x.name.0 ty others ty a))

    plainly_alike : (x : PlacedName) (e : PlainExpr) → Others (λ y. x.name.0 == y) → AllIn (reads e) P → Carries Behind (plainly_assigned c here x e) (plainly_assigned c there x e)
    unfolding plainly_assigned
    plainly_alike x e others all =
        carry_same Behind (type_at c here (earlier here x) e) (type_at c there (earlier there x) e) (λ ty. stored here x ty) (λ ty. stored there x ty)
        (expr_same (earlier here x) e all ∙ ap (λ o. type_at c there o e) (earlier_same x)) (λ ty is. stored_alike x ty others)

    as_alike : (x : PlacedName) (ty : PlainTy) (e : PlainExpr) → Others (λ y. x.name.0 == y) → AllIn (reads e) P → (o : Option PlainTy) → Carries Behind (assigned_as c here x ty e o) (assigned_as c there x ty e o)
    unfolding assigned_as
    as_alike x ty e others all None =
        carry_same Behind (value_as c here ty e) (value_as c there ty e) (λ given. Ok (with_local x.name.0 ty given here)) (λ given. Ok (with_local x.name.0 ty given there)) (value_same ty e all)
        (λ given is. carried (alike_with x.name.0 given others ty a))
    as_alike x ty e others all (Some before) =
        carry_refuse Behind (not (same_ty ty before)) (not (same_ty ty before)) LocalRetyped x.place (plainly_assigned c here x e) (plainly_assigned c there x e) refl (plainly_alike x e others all)

    -- the value of a field
    field_alike : (ty : PlainTy) (e : PlainExpr) → Others (λ y. false) → AllIn (reads e) P → Carries Behind (with_found (value_as c here ty e) (λ given. Ok here)) (with_found (value_as c there ty e) (λ given. Ok there))
    field_alike ty e others all = carry_same Behind (value_as c here ty e) (value_as c there ty e) (λ given. Ok here) (λ given. Ok there) (value_same ty e all) (λ given is. kept_all others)

    pub assigned_alike : (at : Place) (x : Target) (w : Option PlainWritten) (e : PlainExpr) → Others (assigns x) → AllIn (reads e) P → Carries Behind (assigned c here at x w e) (assigned c there at x w e)
    unfolding assigned local_assigned field_assigned field_declared
    assigned_alike at (Local x) None e others all = carry_none Behind (local_fault c.tables here x) (local_fault c.tables there x) (plainly_assigned c here x e) (plainly_assigned c there x e) (name_same x) (plainly_alike x e others all)
    assigned_alike at (Local x) (Some w) e others all =
        let ty : PlainTy = type_written w in
        carry_none Behind (local_fault c.tables here x) (local_fault c.tables there x) _ _ (name_same x)
        (carry_none Behind (type_fault (is_class_in c.tables) w) (type_fault (is_class_in c.tables) w) (assigned_as c here x ty e (earlier here x)) (assigned_as c there x ty e (earlier there x)) refl
        (subst (λ o. Carries Behind (assigned_as c here x ty e (earlier here x)) (assigned_as c there x ty e o)) (earlier_same x) (as_alike x ty e others all (earlier here x))))
    assigned_alike at (Field f) None e others all =
        carry_needs Behind (field_of c.tables c.class f.name.0) UnknownField f.place _ _ (λ ty.
        carry_refuse Behind (is_key_field c f.name.0) (is_key_field c f.name.0) KeyAssigned at _ _ refl (field_alike ty e others all))
    assigned_alike at (Field f) (Some w) e others all = carry_refuse Behind (is_some c.method) (is_some c.method) InitForm at _ _ refl (field_alike (type_written w) e others all)

    combined_alike : (x : Target) (ty : PlainTy) → Others (assigns x) → Carries Behind (combined_stored c here x ty) (combined_stored c there x ty)
    unfolding combined_stored
    combined_alike (Local x) ty others = carry_none Behind (local_fault c.tables here x) (local_fault c.tables there x) (stored here x ty) (stored there x ty) (name_same x) (stored_alike x ty others)
    combined_alike (Field f) ty others = kept_all others

    pub augmented_alike : (at : Place) (x : Target) (op : BinOp) (op_at : Place) (e : PlainExpr) → Others (assigns x) → AllIn (either (reads (target_read at x)) (reads e)) P → Carries Behind (augmentation c here at x op op_at e) (augmentation c there at x op op_at e)
    unfolding augmentation
    augmented_alike at x op op_at e others all =
        carry_same Behind (type_at c here None (target_read at x)) (type_at c there None (target_read at x)) _ _ (expr_same None (target_read at x) (left_in (reads (target_read at x)) (reads e) all)) (λ s is.
        carry_refuse Behind (is_key_target c x) (is_key_target c x) KeyAssigned at _ _ refl
        (carry_same Behind (type_at c here (right_wanted op s) e) (type_at c there (right_wanted op s) e) _ _ (expr_same (right_wanted op s) e (right_in (reads (target_read at x)) (reads e) all)) (λ t is.
        carry_same Behind (augmented op op_at s t) (augmented op op_at s t) (λ ty. combined_stored c here x ty) (λ ty. combined_stored c there x ty) refl (λ ty is. combined_alike x ty others))))
