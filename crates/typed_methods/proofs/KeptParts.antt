-- What stands in a statement keeps its type, and assignments are accepted again, where all variables have their types beforehand and what is
-- known is known so.
use Rattle.std.proofs.Common.{◌≡◌, ℕ, Bool, true, false, not, cond, Option, Some, None, Result, Ok, List, [], ◌∷◌, length, refl, sym, ap, ◌∙◌, subst, true≢false}
use Rattle.std.specs.Prelude.{⊤, ◌&&◌, ◌||◌, ◌==◌, ◌<◌, is_some, is_none, unwrap_or, IfSome}
use Rattle.py_tree.specs.declared.names.Place.{Place}
use Rattle.py_tree.specs.declared.names.PlacedName.{PlacedName}
use Rattle.py_tree.specs.declared.rule.Rule.TheVariants.{TooMany, ReservedName, LocalRetyped, Mismatch, KeyAssigned, UnknownField, InitForm}
use Rattle.py_tree.specs.declared.rule.RuleFault.{RuleFault}
use Rattle.py_tree.specs.declared.expr.BinOp.{BinOp}
use Rattle.py_tree.specs.declared.stmt.Target.{Target}
use Rattle.py_tree.specs.declared.stmt.Target.TheVariants.{Local, Field}
use Rattle.py_tree.specs.Bounded.{ExprNames, OverNames, target_name}
use Rattle.py_tree.specs.PlainTypes.{PlainTy, TNil, PlainWritten, type_of as type_written}
use Rattle.py_tree.specs.PlainExpressions.{PlainExpr, PVar, PSelf}
use Rattle.py_tree.specs.PlainStatements.{PlainOver, PRange, PItems}
use Rattle.py_tree.specs.ReservedNames.{self_number}
use Rattle.py_tree.specs.ClassRules.{PlainTable, type_fault, broken, first_of, is_reserved, is_full}
use Rattle.py_tree.specs.FlowEnvironment.{PlainLocal, local_of}
use Rattle.py_tree.specs.ExpressionTypes.{same_ty, assignable, right_wanted, refuse_if, needs, with_found, place_of, field_of}
use Rattle.py_tree.specs.Flow.{Context, env_of, type_at, condition_at, result_at, value_as, number_at, item_of, fault_in, needs_none, return_fault, message_fault, is_class_in, local_fault, earlier, keeps, stored, plainly_assigned, assigned_as, local_assigned, is_key_field, field_assigned, field_declared, assigned, target_read, augmented, is_key_target, combined_stored, augmentation, with_local}
use Rattle.py_tree.proofs.TypeLaws.{same-refl}
use Rattle.program_meaning.proofs.LocalShapes.{shapes, type_in, earlier_is, is_typed}
use Rattle.program_meaning.proofs.TypedParts.{done, same_ok, found_ok, refuse_ok, needs_ok, passes_ok}
use Rattle.program_meaning.proofs.FlowParts.{no_fault, no_need, stored_ok, value_ok}
use Rattle.flat_types.proofs.FlowStays.{shapes_with}
use Rattle.typed_hoisting.proofs.Assignable.{assigned_itself}
use Rattle.typed_hoisting.proofs.KeptTypes.{Keeps, Near, itself, found_keeps, condition_keeps, type_kept}
use Rattle.typed_methods.proofs.WantedTypes.{itself_wanted}
use Rattle.typed_methods.proofs.StoredKnown.{AllKept, TypedThere, type_or, stored_type, stored_there}

-- a context, in a loop or not
abbrev pub in_loop_if : Context → Bool → Context
in_loop_if c b = record c { in_loop = b }

pub result_same : (c : Context) (a b : Bool) → result_at (in_loop_if c a) ≡ result_at (in_loop_if c b)
unfolding result_at
result_same c a b = refl

module _ (c : Context) (limit : ℕ) (a b : Bool) (here there : List PlainLocal) (kept : AllKept here there) where
  abbrev before : Context
  before = in_loop_if c a

  abbrev again : Context
  again = in_loop_if c b

  near : Near limit (env_of before here) (env_of again there)
  near = record { class = refl; locals = λ x below. kept x }

  pub expr_keeps : (wanted : Option PlainTy) (e : PlainExpr) → ExprNames limit e → Keeps (type_at before here wanted e) (type_at again there wanted e)
  expr_keeps wanted e named = type_kept c.tables limit (env_of before here) (env_of again there) near wanted e named

  pub test_keeps : (e : PlainExpr) → ExprNames limit e → Keeps (condition_at before here e) (condition_at again there e)
  test_keeps e named = condition_keeps (place_of e) (expr_keeps None e named)

  pub value_keeps : (wanted : PlainTy) (e : PlainExpr) → ExprNames limit e → Keeps (value_as before here wanted e) (value_as again there wanted e)
  unfolding value_as
  value_keeps wanted e named = found_keeps (expr_keeps (Some wanted) e named) (λ t. itself)

  number_keeps : (e : PlainExpr) → ExprNames limit e → Keeps (number_at before here e) (number_at again there e)
  unfolding number_at
  number_keeps e named = found_keeps (expr_keeps None e named) (λ t. itself)

  pub item_keeps : (over : PlainOver) → OverNames limit over → Keeps (item_of before here over) (item_of again there over)
  unfolding item_of
  item_keeps (PItems e) named = found_keeps (expr_keeps None e named) (λ t. itself)
  item_keeps (PRange None end) named = number_keeps end named.1
  item_keeps (PRange (Some start) end) named = found_keeps (number_keeps start named.0) (λ t. number_keeps end named.1)

  faultless : {A : Type 0} (r q : Result A RuleFault) → Keeps r q → fault_in r ≡ None → fault_in q ≡ None
  faultless r q k h = let p = no_fault r h in ap fault_in (k.keeps p.0 p.1)

  pub message_again : (m : Option PlainExpr) → IfSome m (ExprNames limit) → message_fault before here m ≡ None → message_fault again there m ≡ None
  unfolding message_fault
  message_again None named h = refl
  message_again (Some e) named h = faultless _ _ (found_keeps (expr_keeps None e named) (λ t. itself)) h

  pub return_again : (at : Place) (m : Option PlainExpr) → IfSome m (ExprNames limit) → return_fault before here at m ≡ None → return_fault again there at m ≡ None
  unfolding return_fault
  return_again at None named h = ap (λ ty. broken Mismatch at (not (assignable TNil ty))) (result_same c b a) ∙ h
  return_again at (Some e) named h =
      faultless (value_as before here (result_at again) e) (value_as again there (result_at again) e) (value_keeps (result_at again) e named) (ap (λ ty. fault_in (value_as before here ty e)) (result_same c b a) ∙ h)

-- Names that are assigned

last_fault : (o q : Option RuleFault) → first_of (o ∷ q ∷ []) ≡ None → first_of (q ∷ []) ≡ None
last_fault None q h = h
last_fault (Some f) q h = absurd (by h)
  where
    by : Some f ≡ None → ⊥
    by e = absurd cc

pub name_again : (tables : List PlainTable) (here there : List PlainLocal) (x : PlacedName) → local_fault tables here x ≡ None → is_some (type_in (shapes there) x.name.0) ≡ true → local_fault tables there x ≡ None
unfolding local_fault
name_again tables here there x h is =
    ap (λ b. first_of (broken TooMany x.place (b && is_full (length there)) ∷ reserved ∷ [])) (by (local_of there x.name.0) (is_typed there x.name.0 ∙ is)) ∙ last_fault (broken TooMany x.place (is_none (local_of here x.name.0) && is_full (length here))) reserved h
  where
    reserved : Option RuleFault
    reserved = broken ReservedName x.place (is_reserved x.name.0 || is_class_in tables x.name.0)

    by : (o : Option PlainLocal) → is_some o ≡ true → is_none o ≡ false
    by (Some l) e = refl
    by None e = absurd (true≢false (sym e))

abbrev pub WrittenAs : List PlainTable → Option PlainWritten → PlainTy → Type 0
WrittenAs tables None ty = ⊤
WrittenAs tables (Some w) ty = (type_fault (is_class_in tables) w ≡ None) × (same_ty (type_written w) ty ≡ true)

-- an assignment to a local whose type is this one from then on: the value has its type where that is wanted
pub record LocalAssigned (c : Context) (locals : List PlainLocal) (x : PlacedName) (w : Option PlainWritten) (e : PlainExpr) (after : List PlainLocal) : Type 0 where
  pub first : PlainTy
  pub ty : PlainTy
  pub fault : local_fault c.tables locals x ≡ None
  pub typed : type_at c locals (Some (type_or locals x.name.0 first)) e ≡ Ok ty
  pub suits : assignable ty (type_or locals x.name.0 first) ≡ true
  pub written : WrittenAs c.tables w (type_or locals x.name.0 first)
  pub is : with_local x.name.0 first ty locals ≡ after

module _ (c : Context) (locals : List PlainLocal) (x : PlacedName) (e : PlainExpr) (after : List PlainLocal) where
  -- the type that is wanted may be the one from before, or the one that is found
  either_wanted : (o : Option PlainTy) (ty : PlainTy) → type_at c locals o e ≡ Ok ty → keeps ty o ≡ true → (type_at c locals (Some (unwrap_or o ty)) e ≡ Ok ty) × (assignable ty (unwrap_or o ty) ≡ true)
  either_wanted None ty h k = (itself_wanted c.tables (env_of c locals) e ty h, assigned_itself ty)
  either_wanted (Some t) ty h k = (h, k)

  plainly_parts : local_fault c.tables locals x ≡ None → (w : Option PlainWritten) → ((ty : PlainTy) → WrittenAs c.tables w (type_or locals x.name.0 ty)) → plainly_assigned c locals x e ≡ Ok after → LocalAssigned c locals x w e after
  unfolding plainly_assigned
  plainly_parts fault w written h =
      let p : (ty : PlainTy) × (type_at c locals (earlier locals x) e ≡ Ok ty) × (stored locals x ty ≡ Ok after) = found_ok (type_at c locals (earlier locals x) e) (λ ty. stored locals x ty) after h in
      let q : (keeps p.0 (earlier locals x) ≡ true) × (with_local x.name.0 p.0 p.0 locals ≡ after) = stored_ok c locals x p.0 after p.2 in
      let r = either_wanted (type_in (shapes locals) x.name.0) p.0 (ap (λ o. type_at c locals o e) (sym (earlier_is locals x)) ∙ p.1) (ap (keeps p.0) (sym (earlier_is locals x)) ∙ q.0) in
      record { first = p.0; ty = p.0; fault = fault; typed = r.0; suits = r.1; written = written p.0; is = q.1 }

  pub local_parts : (at : Place) (w : Option PlainWritten) → assigned c locals at (Local x) w e ≡ Ok after → LocalAssigned c locals x w e after
  unfolding assigned local_assigned assigned_as
  local_parts at None h = let p = no_need (local_fault c.tables locals x) (plainly_assigned c locals x e) after h in plainly_parts p.0 None (λ ty. tt) p.1
  local_parts at (Some w) h =
      let rest : Result (List PlainLocal) RuleFault = assigned_as c locals x (type_written w) e (earlier locals x) in
      let p = no_need (local_fault c.tables locals x) (needs_none (type_fault (is_class_in c.tables) w) rest) after h in
      let q = no_need (type_fault (is_class_in c.tables) w) rest after p.1 in
      by p.0 q.0 (earlier locals x) refl q.1
    where
      by : local_fault c.tables locals x ≡ None → type_fault (is_class_in c.tables) w ≡ None → (o : Option PlainTy) → earlier locals x ≡ o → assigned_as c locals x (type_written w) e o ≡ Ok after → LocalAssigned c locals x (Some w) e after
      by fault fine None is h =
          let t : PlainTy = type_written w in
          let p : (given : PlainTy) × (value_as c locals t e ≡ Ok given) × (done (with_local x.name.0 t given locals) ≡ Ok after) = found_ok (value_as c locals t e) (λ given. Ok (with_local x.name.0 t given locals)) after h in
          let v = value_ok c locals t e p.0 p.1 in
          let same : t ≡ type_or locals x.name.0 t = sym (ap (λ o. unwrap_or o t) (sym (earlier_is locals x) ∙ is)) in
          record {
            first = t;
            ty = p.0;
            fault = fault;
            typed = ap (λ s. type_at c locals (Some s) e) (sym same) ∙ v.0;
            suits = ap (assignable p.0) (sym same) ∙ v.1;
            written = (fine, ap (same_ty t) (sym same) ∙ same-refl t);
            is = same_ok (with_local x.name.0 t p.0 locals) after p.2;
          }
      by fault fine (Some s) is h =
          let p = passes_ok (same_ty (type_written w) s) LocalRetyped x.place (plainly_assigned c locals x e) after h in
          plainly_parts fault (Some w) (λ ty. (fine, ap (same_ty (type_written w)) (ap (λ o. unwrap_or o ty) (sym (earlier_is locals x) ∙ is)) ∙ p.0)) p.1

-- so it is accepted where the name has that type
module _ (c : Context) (locals : List PlainLocal) (x : PlacedName) (e : PlainExpr) (t ty : PlainTy) (has : type_in (shapes locals) x.name.0 ≡ Some t) (typed : type_at c locals (Some t) e ≡ Ok ty) (suits : assignable ty t ≡ true) where
  has_earlier : earlier locals x ≡ Some t
  has_earlier = earlier_is locals x ∙ has

  plainly_again : plainly_assigned c locals x e ≡ Ok (with_local x.name.0 ty ty locals)
  unfolding plainly_assigned stored
  plainly_again =
      ap (λ o. with_found (type_at c locals o e) (λ ty. refuse_if (not (keeps ty o)) LocalRetyped x.place (Ok (with_local x.name.0 ty ty locals)))) has_earlier
      ∙ ap (λ r. with_found r (λ ty. refuse_if (not (assignable ty t)) LocalRetyped x.place (done (with_local x.name.0 ty ty locals)))) typed
      ∙ ap (λ b. refuse_if (not b) LocalRetyped x.place (done (with_local x.name.0 ty ty locals))) suits

  pub local_again : (at : Place) (w : Option PlainWritten) → local_fault c.tables locals x ≡ None → WrittenAs c.tables w t → assigned c locals at (Local x) w e ≡ Ok (with_local x.name.0 ty ty locals)
  unfolding assigned local_assigned assigned_as
  local_again at None fault written = ap (λ o. needs_none o (plainly_assigned c locals x e)) fault ∙ plainly_again
  local_again at (Some w) fault written =
      ap (λ o. needs_none o (needs_none (type_fault (is_class_in c.tables) w) (assigned_as c locals x (type_written w) e (earlier locals x)))) fault
      ∙ ap (λ o. needs_none o (assigned_as c locals x (type_written w) e (earlier locals x))) written.0
      ∙ ap (λ o. assigned_as c locals x (type_written w) e o) has_earlier
      ∙ ap (λ b. refuse_if (not b) LocalRetyped x.place (plainly_assigned c locals x e)) written.1
      ∙ plainly_again

-- what is assigned here is assigned so there
pub record AssignedThere (after there : List PlainLocal) (r : Result (List PlainLocal) RuleFault) : Type 0 where
  pub end : List PlainLocal
  pub is : r ≡ Ok end
  pub kept : AllKept after end
  pub same : shapes end ≡ shapes there

module _ (c : Context) (limit : ℕ) (a b : Bool) (here there : List PlainLocal) (kept : AllKept here there) (after : List PlainLocal) (typed : TypedThere after there) where
  abbrev first_context : Context
  first_context = in_loop_if c a

  abbrev second_context : Context
  second_context = in_loop_if c b

  -- a value of this type goes into a name
  put_there : (x : ℕ) (first ty : PlainTy) → with_local x first ty here ≡ after → (type_in (shapes there) x ≡ Some (type_or here x first)) × AllKept after (with_local x ty ty there) × (shapes (with_local x ty ty there) ≡ shapes there)
  put_there x first ty is =
      let has : type_in (shapes there) x ≡ Some (type_or here x first) = typed x (type_or here x first) (ap (λ ls. type_in (shapes ls) x) (sym is) ∙ stored_type x first ty here) in (
        has,
        subst (λ ls. AllKept ls (with_local x ty ty there)) is (stored_there x first ty ty here there has kept),
        shapes_with x ty ty there (ap is_some has),
      )

  unchanged : (r : Result (List PlainLocal) RuleFault) → here ≡ after → r ≡ Ok there → AssignedThere after there r
  unchanged r e is = record { end = there; is = is; kept = subst (λ ls. AllKept ls there) e kept; same = refl }

  pub assigned_there : (at : Place) (x : Target) (w : Option PlainWritten) (e : PlainExpr) → ExprNames limit e → assigned first_context here at x w e ≡ Ok after → AssignedThere after there (assigned second_context there at x w e)
  unfolding assigned field_assigned field_declared is_key_field
  assigned_there at (Local x) w e named h =
      let p : LocalAssigned first_context here x w e after = local_parts first_context here x e after at w h in
      let t : PlainTy = type_or here x.name.0 p.first in
      let q = put_there x.name.0 p.first p.ty p.is in
      record {
        end = with_local x.name.0 p.ty p.ty there;
        is = local_again second_context there x e t p.ty q.0 ((expr_keeps c limit a b here there kept (Some t) e named).keeps p.ty p.typed) p.suits at w (name_again c.tables here there x p.fault (ap is_some q.0)) p.written;
        kept = q.1;
        same = q.2;
      }
  assigned_there at (Field f) None e named h = field_there h
    where
      field_there : field_assigned first_context here at f e ≡ Ok after → AssignedThere after there (field_assigned second_context there at f e)
      field_there h =
          let value : Context → List PlainLocal → PlainTy → Result (List PlainLocal) RuleFault = λ d ls ty. with_found (value_as d ls ty e) (λ given. Ok ls) in
          let key : Context → List PlainLocal → PlainTy → Result (List PlainLocal) RuleFault = λ d ls ty. refuse_if (is_key_field c f.name.0) KeyAssigned at (value d ls ty) in
          let p : (ty : PlainTy) × (field_of c.tables c.class f.name.0 ≡ Some ty) × (key first_context here ty ≡ Ok after) = needs_ok (field_of c.tables c.class f.name.0) UnknownField f.place (key first_context here) after h in
          let q = refuse_ok (is_key_field c f.name.0) KeyAssigned at (value first_context here p.0) after p.2 in
          let r : (given : PlainTy) × (value_as first_context here p.0 e ≡ Ok given) × (done here ≡ Ok after) = found_ok (value_as first_context here p.0 e) (λ given. Ok here) after q.1 in
          unchanged (field_assigned second_context there at f e) (same_ok here after r.2)
          (ap (λ o. needs o UnknownField f.place (key second_context there)) p.1
          ∙ ap (λ b. refuse_if b KeyAssigned at (value second_context there p.0)) q.0
          ∙ ap (λ o. with_found o (λ given. done there)) ((value_keeps c limit a b here there kept p.0 e named).keeps r.0 r.1))
  assigned_there at (Field f) (Some w) e named h = field_there h
    where
      field_there : field_declared first_context here at (type_written w) e ≡ Ok after → AssignedThere after there (field_declared second_context there at (type_written w) e)
      field_there h =
          let value : Context → List PlainLocal → Result (List PlainLocal) RuleFault = λ d ls. with_found (value_as d ls (type_written w) e) (λ given. Ok ls) in
          let q = refuse_ok (is_some c.method) InitForm at (value first_context here) after h in
          let r : (given : PlainTy) × (value_as first_context here (type_written w) e ≡ Ok given) × (done here ≡ Ok after) = found_ok (value_as first_context here (type_written w) e) (λ given. Ok here) after q.1 in
          unchanged (field_declared second_context there at (type_written w) e) (same_ok here after r.2)
          (ap (λ b. refuse_if b InitForm at (value second_context there)) q.0 ∙ ap (λ o. with_found o (λ given. done there)) ((value_keeps c limit a b here there kept (type_written w) e named).keeps r.0 r.1))

  stored_again : (x : PlacedName) (ty : PlainTy) → stored here x ty ≡ Ok after → AssignedThere after there (stored there x ty)
  unfolding stored
  stored_again x ty h =
      let p = stored_ok first_context here x ty after h in
      let q = put_there x.name.0 ty ty p.1 in
      let suits : assignable ty (type_or here x.name.0 ty) ≡ true = by (type_in (shapes here) x.name.0) (ap (keeps ty) (sym (earlier_is here x)) ∙ p.0) in
      record {
        end = with_local x.name.0 ty ty there;
        is = ap (λ o. refuse_if (not (keeps ty o)) LocalRetyped x.place (done (with_local x.name.0 ty ty there))) (earlier_is there x ∙ q.0) ∙ ap (λ b. refuse_if (not b) LocalRetyped x.place (done (with_local x.name.0 ty ty there))) suits;
        kept = q.1;
        same = q.2;
      }
    where
      by : (o : Option PlainTy) → keeps ty o ≡ true → assignable ty (unwrap_or o ty) ≡ true
      by None k = assigned_itself ty
      by (Some t) k = k

  pub named_there : (x : PlacedName) (ty : PlainTy) → local_fault c.tables here x ≡ None → stored here x ty ≡ Ok after → (local_fault c.tables there x ≡ None) × AssignedThere after there (stored there x ty)
  named_there x ty fault h = let p = stored_ok first_context here x ty after h in let q = put_there x.name.0 ty ty p.1 in (name_again c.tables here there x fault (ap is_some q.0), stored_again x ty h)

  combined_again : (x : Target) (ty : PlainTy) → combined_stored first_context here x ty ≡ Ok after → AssignedThere after there (combined_stored second_context there x ty)
  unfolding combined_stored
  combined_again (Local x) ty h =
      let p = no_need (local_fault c.tables here x) (stored here x ty) after h in
      let q = named_there x ty p.0 p.1 in
      record { end = q.1.end; is = ap (λ o. needs_none o (stored there x ty)) q.0 ∙ q.1.is; kept = q.1.kept; same = q.1.same }
  combined_again (Field f) ty h = unchanged (Ok there) (same_ok here after h) refl

  read_named : (at : Place) (x : Target) → target_name x < limit → ExprNames limit (target_read at x)
  unfolding ExprNames
  read_named at (Local x) below = by (x.name.0 == self_number)
    where
      by : (d : Bool) → ExprNames limit (cond d (PSelf x.place) (PVar x.place x.name.0))
      by true = tt
      by false = below
  read_named at (Field f) below = (tt, below)

  pub augmented_there : (at : Place) (x : Target) (op : BinOp) (op_at : Place) (e : PlainExpr) → target_name x < limit → ExprNames limit e → augmentation first_context here at x op op_at e ≡ Ok after
      → AssignedThere after there (augmentation second_context there at x op op_at e)
  unfolding augmentation is_key_field
  augmented_there at x op op_at e below named h =
      let put : Context → List PlainLocal → PlainTy → Result (List PlainLocal) RuleFault = λ d ls ty. combined_stored d ls x ty in
      let both : Context → List PlainLocal → PlainTy → PlainTy → Result (List PlainLocal) RuleFault = λ d ls s t. with_found (augmented op op_at s t) (put d ls) in
      let value : Context → List PlainLocal → PlainTy → Result (List PlainLocal) RuleFault = λ d ls s. with_found (type_at d ls (right_wanted op s) e) (both d ls s) in
      let key : Context → List PlainLocal → PlainTy → Result (List PlainLocal) RuleFault = λ d ls s. refuse_if (is_key_target c x) KeyAssigned at (value d ls s) in
      let p : (s : PlainTy) × (type_at first_context here None (target_read at x) ≡ Ok s) × (key first_context here s ≡ Ok after) = found_ok (type_at first_context here None (target_read at x)) (key first_context here) after h in
      let q = refuse_ok (is_key_target c x) KeyAssigned at (value first_context here p.0) after p.2 in
      let r : (t : PlainTy) × (type_at first_context here (right_wanted op p.0) e ≡ Ok t) × (both first_context here p.0 t ≡ Ok after) = found_ok (type_at first_context here (right_wanted op p.0) e) (both first_context here p.0) after q.1 in
      let s : (u : PlainTy) × (augmented op op_at p.0 r.0 ≡ Ok u) × (put first_context here u ≡ Ok after) = found_ok (augmented op op_at p.0 r.0) (put first_context here) after r.2 in
      let t : AssignedThere after there (combined_stored second_context there x s.0) = combined_again x s.0 s.2 in
      record {
        end = t.end;
        is =
            ap (λ o. with_found o (key second_context there)) ((expr_keeps c limit a b here there kept None (target_read at x) (read_named at x below)).keeps p.0 p.1)
            ∙ ap (λ b. refuse_if b KeyAssigned at (value second_context there p.0)) q.0
            ∙ ap (λ o. with_found o (both second_context there p.0)) ((expr_keeps c limit a b here there kept (right_wanted op p.0) e named).keeps r.0 r.1)
            ∙ ap (λ o. with_found o (put second_context there)) s.1
            ∙ t.is;
        kept = t.kept;
        same = t.same;
      }
