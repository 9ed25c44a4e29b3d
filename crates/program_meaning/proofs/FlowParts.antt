-- What the rules on statements found at the parts of a statement that breaks none.
use Rattle.std.proofs.Common.{◌≡◌, Bool, true, false, not, Option, Some, None, Ok, Err, List, ◌⊎◌, inl, inr, refl, sym, ap, ◌∙◌, subst, true≢false}
use Rattle.std.specs.Prelude.{◌||◌, ◌&&◌, is_some}
use Rattle.std.specs.declared.result.Result.{Result}
use Rattle.std.proofs.lemmas.Option.{none-some}
use Rattle.py_tree.specs.declared.names.Place.{Place}
use Rattle.py_tree.specs.declared.names.PlacedName.{PlacedName}
use Rattle.py_tree.specs.declared.rule.Rule.{Rule}
use Rattle.py_tree.specs.declared.rule.Rule.TheVariants.{InitForm, UnknownField, NoneUse, Operand, Mismatch, LocalRetyped, KeyAssigned}
use Rattle.py_tree.specs.declared.rule.RuleFault.{RuleFault}
use Rattle.py_tree.specs.declared.expr.BinOp.{BinOp}
use Rattle.py_tree.specs.declared.expr.BinOp.TheVariants as op
use Rattle.py_tree.specs.declared.stmt.Target.{Target}
use Rattle.py_tree.specs.declared.stmt.Target.TheVariants.{Local, Field}
use Rattle.py_tree.specs.PlainTypes.{PlainTy, TInt, TStr, TNil, TList, PlainWritten, type_of as type_written}
use Rattle.py_tree.specs.PlainExpressions.{PlainExpr}
use Rattle.py_tree.specs.PlainStatements.{PRange, PItems}
use Rattle.py_tree.specs.ClassRules.{broken, type_fault}
use Rattle.py_tree.specs.FlowEnvironment.{PlainLocal, has_none}
use Rattle.py_tree.specs.ExpressionTypes.{same_ty, assignable, is_int, is_str, is_plus, are_ints, element_of, field_of, right_wanted, place_of, refuse_if, needs, with_found, operand, fits}
use Rattle.py_tree.specs.Flow.{Context, type_at, result_at, with_local, value_as, number_at, item_of, fault_in, needs_none, return_fault, message_fault, is_class_in, local_fault, earlier, keeps, stored, plainly_assigned, assigned_as, local_assigned, is_key_field, field_assigned, field_declared, assigned, target_read, augmented, is_key_target, combined_stored, augmentation}
use Rattle.py_tree.proofs.TypeLaws.{same-refl}
use Rattle.program_meaning.proofs.TypedParts.{joins_numbers, done, err_ok, same_ok, found_ok, refuse_ok, needs_ok, passes_ok, not_false, operand_ok, either_true, both_true, int_is, str_is, element_is, Joins, texts}

some_not_none : {A : Type 0} (x : A) → Some x ≡ None → ⊥
some_not_none x h = none-some x (sym h)

pub no_fault : {A : Type 0} (r : Result A RuleFault) → fault_in r ≡ None → (x : A) × (r ≡ Ok x)
no_fault (Ok x) h = (x, refl)
no_fault (Err f) h = absurd (some_not_none f h)

pub no_need : {A : Type 0} (o : Option RuleFault) (rest : Result A RuleFault) (t : A) → needs_none o rest ≡ Ok t → (o ≡ None) × (rest ≡ Ok t)
no_need None rest t h = (refl, h)
no_need (Some f) rest t h = absurd (err_ok f t h)

module _ (c : Context) (locals : List PlainLocal) where
  pub value_ok : (wanted : PlainTy) (e : PlainExpr) (ty : PlainTy) → value_as c locals wanted e ≡ Ok ty → (type_at c locals (Some wanted) e ≡ Ok ty) × (assignable ty wanted ≡ true)
  unfolding value_as
  value_ok wanted e ty h =
      let a : (t : PlainTy) × (type_at c locals (Some wanted) e ≡ Ok t) × (fits t wanted (place_of e) (Ok t) ≡ Ok ty) = found_ok (type_at c locals (Some wanted) e) (λ t. fits t wanted (place_of e) (Ok t)) ty h in
      let b : (assignable a.0 wanted ≡ true) × (done a.0 ≡ Ok ty) = passes_ok (assignable a.0 wanted) Mismatch (place_of e) (Ok a.0) ty a.2 in
      let same : a.0 ≡ ty = same_ok a.0 ty b.1 in
      (a.1 ∙ ap Ok same, subst (λ t. assignable t wanted ≡ true) same b.0)

  pub number_ok : (e : PlainExpr) (ty : PlainTy) → number_at c locals e ≡ Ok ty → (type_at c locals None e ≡ Ok TInt) × (ty ≡ TInt)
  unfolding number_at
  number_ok e ty h =
      let a : (t : PlainTy) × (type_at c locals None e ≡ Ok t) × (operand t is_int (place_of e) (Ok TInt) ≡ Ok ty) = found_ok (type_at c locals None e) (λ t. operand t is_int (place_of e) (Ok TInt)) ty h in
      let b : (is_int a.0 ≡ true) × (done TInt ≡ Ok ty) = operand_ok a.0 is_int (place_of e) (Ok TInt) ty a.2 in
      (a.1 ∙ ap Ok (int_is a.0 b.0), sym (same_ok TInt ty b.1))

  pub items_ok : (e : PlainExpr) (ty : PlainTy) → item_of c locals (PItems e) ≡ Ok ty → type_at c locals None e ≡ Ok (TList ty)
  unfolding item_of
  items_ok e ty h =
      let a : (t : PlainTy) × (type_at c locals None e ≡ Ok t) × (refuse_if (has_none t) NoneUse (place_of e) (needs (element_of t) Operand (place_of e) (λ u. Ok u)) ≡ Ok ty) = found_ok (type_at c locals None e) (λ t. refuse_if (has_none t) NoneUse (place_of e) (needs (element_of t) Operand (place_of e) (λ u. Ok u))) ty h in
      let b : (u : PlainTy) × (element_of a.0 ≡ Some u) × (done u ≡ Ok ty) = needs_ok (element_of a.0) Operand (place_of e) (λ u. Ok u) ty (refuse_ok (has_none a.0) NoneUse (place_of e) (needs (element_of a.0) Operand (place_of e) (λ u. Ok u)) ty a.2).1 in
      a.1 ∙ ap Ok (element_is a.0 b.0 b.1 ∙ ap TList (same_ok b.0 ty b.2))

  pub short_range_ok : (end : PlainExpr) (ty : PlainTy) → item_of c locals (PRange None end) ≡ Ok ty → (type_at c locals None end ≡ Ok TInt) × (ty ≡ TInt)
  unfolding item_of
  short_range_ok end ty h = number_ok end ty h

  pub range_ok : (start end : PlainExpr) (ty : PlainTy) → item_of c locals (PRange (Some start) end) ≡ Ok ty → (type_at c locals None start ≡ Ok TInt) × (type_at c locals None end ≡ Ok TInt) × (ty ≡ TInt)
  unfolding item_of
  range_ok start end ty h =
      let a : (t : PlainTy) × (number_at c locals start ≡ Ok t) × (number_at c locals end ≡ Ok ty) = found_ok (number_at c locals start) (λ t. number_at c locals end) ty h in
      let b : (type_at c locals None end ≡ Ok TInt) × (ty ≡ TInt) = number_ok end ty a.2 in
      ((number_ok start a.0 a.1).0, b.0, b.1)

  is_none_broken : (rule : Rule) (at : Place) (b : Bool) → broken rule at b ≡ None → b ≡ false
  is_none_broken rule at true h = absurd (some_not_none _ h)
  is_none_broken rule at false h = refl

  pub return_nothing_ok : (at : Place) → return_fault c locals at None ≡ None → assignable TNil (result_at c) ≡ true
  unfolding return_fault
  return_nothing_ok at h = not_false (assignable TNil (result_at c)) (is_none_broken Mismatch at (not (assignable TNil (result_at c))) h)

  pub return_ok : (at : Place) (e : PlainExpr) → return_fault c locals at (Some e) ≡ None → (ty : PlainTy) × (type_at c locals (Some (result_at c)) e ≡ Ok ty) × (assignable ty (result_at c) ≡ true)
  unfolding return_fault
  return_ok at e h =
      let a : (ty : PlainTy) × (value_as c locals (result_at c) e ≡ Ok ty) = no_fault (value_as c locals (result_at c) e) h in
      let b : (type_at c locals (Some (result_at c)) e ≡ Ok a.0) × (assignable a.0 (result_at c) ≡ true) = value_ok (result_at c) e a.0 a.1 in
      (a.0, b.0, b.1)

  pub message_text : (e : PlainExpr) → message_fault c locals (Some e) ≡ None → type_at c locals None e ≡ Ok TStr
  unfolding message_fault
  message_text e h =
      let then_str : PlainTy → Result PlainTy RuleFault = λ ty. refuse_if (not (is_str ty)) Mismatch (place_of e) (Ok ty) in
      let a : (ty : PlainTy) × (with_found (type_at c locals None e) then_str ≡ Ok ty) = no_fault (with_found (type_at c locals None e) then_str) h in
      let b : (t : PlainTy) × (type_at c locals None e ≡ Ok t) × (then_str t ≡ Ok a.0) = found_ok (type_at c locals None e) then_str a.0 a.1 in
      b.1 ∙ ap Ok (str_is b.0 (passes_ok (is_str b.0) Mismatch (place_of e) (Ok b.0) a.0 b.2).0)

  pub message_ok : (e : PlainExpr) → message_fault c locals (Some e) ≡ None → (ty : PlainTy) × (type_at c locals None e ≡ Ok ty)
  message_ok e h = (TStr, message_text e h)

  -- an assignment to a local: the value has a type that keeps to the one from before, and the local gets it
  pub record LocalTaken (x : PlacedName) (e : PlainExpr) (after : List PlainLocal) : Type 0 where
    pub wanted : Option PlainTy
    pub ty : PlainTy
    pub first : PlainTy
    pub typed : type_at c locals wanted e ≡ Ok ty
    pub kept : keeps ty (earlier locals x) ≡ true
    pub suits : assignable ty first ≡ true
    pub is : with_local x.name.0 first ty locals ≡ after

  pub stored_ok : (x : PlacedName) (ty : PlainTy) (after : List PlainLocal) → stored locals x ty ≡ Ok after → (keeps ty (earlier locals x) ≡ true) × (with_local x.name.0 ty ty locals ≡ after)
  unfolding stored
  stored_ok x ty after h =
      let a : (keeps ty (earlier locals x) ≡ true) × (done (with_local x.name.0 ty ty locals) ≡ Ok after) = passes_ok (keeps ty (earlier locals x)) LocalRetyped x.place (Ok (with_local x.name.0 ty ty locals)) after h in
      (a.0, same_ok (with_local x.name.0 ty ty locals) after a.1)

  pub same_assignable : (ty : PlainTy) → assignable ty ty ≡ true
  unfolding assignable
  same_assignable ty = by (same_ty ty ty) _ (same-refl ty)
    where
      by : (a b : Bool) → a ≡ true → (a || b) ≡ true
      by true b h = refl
      by false b h = absurd (true≢false (sym h))

  plainly_ok : (x : PlacedName) (e : PlainExpr) (after : List PlainLocal) → plainly_assigned c locals x e ≡ Ok after → LocalTaken x e after
  unfolding plainly_assigned
  plainly_ok x e after h =
      let a : (ty : PlainTy) × (type_at c locals (earlier locals x) e ≡ Ok ty) × (stored locals x ty ≡ Ok after) = found_ok (type_at c locals (earlier locals x) e) (λ ty. stored locals x ty) after h in
      let b : (keeps a.0 (earlier locals x) ≡ true) × (with_local x.name.0 a.0 a.0 locals ≡ after) = stored_ok x a.0 after a.2 in
      record { wanted = earlier locals x; ty = a.0; first = a.0; typed = a.1; kept = b.0; suits = same_assignable a.0; is = b.1 }

  assigned_as_ok : (x : PlacedName) (ty : PlainTy) (e : PlainExpr) (o : Option PlainTy) (after : List PlainLocal) → earlier locals x ≡ o → assigned_as c locals x ty e o ≡ Ok after → LocalTaken x e after
  unfolding assigned_as
  assigned_as_ok x ty e None after is h =
      let a : (given : PlainTy) × (value_as c locals ty e ≡ Ok given) × (done (with_local x.name.0 ty given locals) ≡ Ok after) = found_ok (value_as c locals ty e) (λ given. Ok (with_local x.name.0 ty given locals)) after h in
      let b : (type_at c locals (Some ty) e ≡ Ok a.0) × (assignable a.0 ty ≡ true) = value_ok ty e a.0 a.1 in
      record { wanted = Some ty; ty = a.0; first = ty; typed = b.0; kept = ap (keeps a.0) is; suits = b.1; is = same_ok (with_local x.name.0 ty a.0 locals) after a.2 }
  assigned_as_ok x ty e (Some before) after is h = plainly_ok x e after (passes_ok (same_ty ty before) LocalRetyped x.place (plainly_assigned c locals x e) after h).1

  pub local_ok : (at : Place) (x : PlacedName) (w : Option PlainWritten) (e : PlainExpr) (after : List PlainLocal) → assigned c locals at (Local x) w e ≡ Ok after → LocalTaken x e after
  unfolding assigned local_assigned
  local_ok at x None e after h = plainly_ok x e after (no_need (local_fault c.tables locals x) (plainly_assigned c locals x e) after h).1
  local_ok at x (Some w) e after h =
      let rest : Result (List PlainLocal) RuleFault = assigned_as c locals x (type_written w) e (earlier locals x) in
      assigned_as_ok x (type_written w) e (earlier locals x) after refl (no_need (type_fault (is_class_in c.tables) w) rest after (no_need (local_fault c.tables locals x) (needs_none (type_fault (is_class_in c.tables) w) rest) after h).1).1

  -- an assignment to a field in a method
  pub field_ok : (at : Place) (f : PlacedName) (w : Option PlainWritten) (e : PlainExpr) (after : List PlainLocal) → is_some c.method ≡ true → assigned c locals at (Field f) w e ≡ Ok after
      → (ty : PlainTy) × (given : PlainTy) × (field_of c.tables c.class f.name.0 ≡ Some ty) × (type_at c locals (Some ty) e ≡ Ok given) × (assignable given ty ≡ true) × (locals ≡ after)
  unfolding assigned field_assigned field_declared
  field_ok at f None e after m h =
      let then_value : PlainTy → Result (List PlainLocal) RuleFault = λ ty. with_found (value_as c locals ty e) (λ given. Ok locals) in
      let then_key : PlainTy → Result (List PlainLocal) RuleFault = λ ty. refuse_if (is_key_field c f.name.0) KeyAssigned at (then_value ty) in
      let a : (ty : PlainTy) × (field_of c.tables c.class f.name.0 ≡ Some ty) × (then_key ty ≡ Ok after) = needs_ok (field_of c.tables c.class f.name.0) UnknownField f.place then_key after h in
      let b : (given : PlainTy) × (value_as c locals a.0 e ≡ Ok given) × (done locals ≡ Ok after) = found_ok (value_as c locals a.0 e) (λ given. Ok locals) after (refuse_ok (is_key_field c f.name.0) KeyAssigned at (then_value a.0) after a.2).1 in
      let d : (type_at c locals (Some a.0) e ≡ Ok b.0) × (assignable b.0 a.0 ≡ true) = value_ok a.0 e b.0 b.1 in
      (a.0, b.0, a.1, d.0, d.1, same_ok locals after b.2)
  field_ok at f (Some w) e after m h = absurd (true≢false (sym m ∙ (refuse_ok (is_some c.method) InitForm at (with_found (value_as c locals (type_written w) e) (λ given. Ok locals)) after h).0))

  -- `x op= e`
  pub record Augments (at : Place) (x : Target) (o : BinOp) (op_at : Place) (e : PlainExpr) (after : List PlainLocal) : Type 0 where
    pub before : PlainTy
    pub other : PlainTy
    pub read : type_at c locals None (target_read at x) ≡ Ok before
    pub typed : type_at c locals (right_wanted o before) e ≡ Ok other
    pub joins : Joins o before other
    pub put : combined_stored c locals x before ≡ Ok after

  texts_by : (o : BinOp) (s t : PlainTy) → is_plus o ≡ true → s ≡ TStr → t ≡ TStr → Joins o s t
  texts_by op.Add s t h e f = subst (λ u. Joins op.Add u t) (sym e) (subst (λ u. Joins op.Add TStr u) (sym f) texts)
  texts_by _ s t h e f = absurd (true≢false (sym h))

  augmented_ok : (o : BinOp) (place : Place) (s t u : PlainTy) → augmented o place s t ≡ Ok u → (s ≡ u) × Joins o s t
  unfolding augmented
  augmented_ok o place s t u h =
      let rest : Result PlainTy RuleFault = refuse_if (not (are_ints s t || (is_plus o && (is_str s && is_str t)))) Operand place (Ok s) in
      let p : ((are_ints s t || (is_plus o && (is_str s && is_str t))) ≡ true) × (done s ≡ Ok u) = passes_ok (are_ints s t || (is_plus o && (is_str s && is_str t))) Operand place (Ok s) u (refuse_ok (has_none s || has_none t) NoneUse place rest u h).1 in
      (same_ok s u p.1, by (either_true (are_ints s t) (is_plus o && (is_str s && is_str t)) p.0))
    where
      by : (are_ints s t ≡ true) ⊎ ((is_plus o && (is_str s && is_str t)) ≡ true) → Joins o s t
      by (inl e) = let q : (is_int s ≡ true) × (is_int t ≡ true) = both_true (is_int s) (is_int t) e in joins_numbers o s t (int_is s q.0) (int_is t q.1)
      by (inr e) =
          let q : (is_plus o ≡ true) × ((is_str s && is_str t) ≡ true) = both_true (is_plus o) (is_str s && is_str t) e in
          let r : (is_str s ≡ true) × (is_str t ≡ true) = both_true (is_str s) (is_str t) q.1 in
          texts_by o s t q.0 (str_is s r.0) (str_is t r.1)

  pub augments_ok : (at : Place) (x : Target) (o : BinOp) (op_at : Place) (e : PlainExpr) (after : List PlainLocal) → augmentation c locals at x o op_at e ≡ Ok after → Augments at x o op_at e after
  unfolding augmentation
  augments_ok at x o op_at e after h =
      let then_put : PlainTy → Result (List PlainLocal) RuleFault = λ ty. combined_stored c locals x ty in
      let then_both : PlainTy → PlainTy → Result (List PlainLocal) RuleFault = λ s t. with_found (augmented o op_at s t) then_put in
      let then_value : PlainTy → Result (List PlainLocal) RuleFault = λ s. with_found (type_at c locals (right_wanted o s) e) (then_both s) in
      let then_key : PlainTy → Result (List PlainLocal) RuleFault = λ s. refuse_if (is_key_target c x) KeyAssigned at (then_value s) in
      let a : (s : PlainTy) × (type_at c locals None (target_read at x) ≡ Ok s) × (then_key s ≡ Ok after) = found_ok (type_at c locals None (target_read at x)) then_key after h in
      let b : (t : PlainTy) × (type_at c locals (right_wanted o a.0) e ≡ Ok t) × (then_both a.0 t ≡ Ok after) = found_ok (type_at c locals (right_wanted o a.0) e) (then_both a.0) after (refuse_ok (is_key_target c x) KeyAssigned at (then_value a.0) after a.2).1 in
      let d : (u : PlainTy) × (augmented o op_at a.0 b.0 ≡ Ok u) × (then_put u ≡ Ok after) = found_ok (augmented o op_at a.0 b.0) then_put after b.2 in
      let q : (a.0 ≡ d.0) × Joins o a.0 b.0 = augmented_ok o op_at a.0 b.0 d.0 d.1 in
      record { before = a.0; other = b.0; read = a.1; typed = b.1; joins = q.1; put = ap then_put q.0 ∙ d.2 }

  pub put_local_ok : (x : PlacedName) (ty : PlainTy) (after : List PlainLocal) → combined_stored c locals (Local x) ty ≡ Ok after → (keeps ty (earlier locals x) ≡ true) × (with_local x.name.0 ty ty locals ≡ after)
  unfolding combined_stored
  put_local_ok x ty after h = stored_ok x ty after (no_need (local_fault c.tables locals x) (stored locals x ty) after h).1

  pub put_field_ok : (f : PlacedName) (ty : PlainTy) (after : List PlainLocal) → combined_stored c locals (Field f) ty ≡ Ok after → locals ≡ after
  unfolding combined_stored
  put_field_ok f ty after h = same_ok locals after h
