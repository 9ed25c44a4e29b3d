-- What the parts of an expression are that has a type.
use Rattle.std.proofs.Common.{◌≡◌, ℕ, Bool, true, false, not, Option, Some, None, Ok, Err, List, [], ◌∷◌, length, ◌⊎◌, inl, inr, refl, sym, ap, ◌∙◌, subst, true≢false}
use Rattle.std.specs.Prelude.{◌==◌, ◌||◌, ◌&&◌, is_none}
use Rattle.std.specs.declared.result.Result.{Result}
use Rattle.std.proofs.lemmas.Option.{same_Some, none-some}
use Rattle.py_tree.specs.declared.names.Place.{Place}
use Rattle.py_tree.specs.declared.rule.Rule.{Rule}
use Rattle.py_tree.specs.declared.rule.Rule.TheVariants.{UnknownName, RemoteField, UnknownField, NoneUse, Operand, UnknownMethod, ArgCount, Mismatch}
use Rattle.py_tree.specs.declared.rule.RuleFault.{RuleFault}
use Rattle.py_tree.specs.declared.expr.BinOp.{BinOp}
use Rattle.py_tree.specs.declared.expr.BinOp.TheVariants as op
use Rattle.py_tree.specs.declared.expr.Cmp.{Cmp}
use Rattle.py_tree.specs.declared.expr.Cmp.TheVariants as cmp
use Rattle.py_tree.specs.PlainTypes.{PlainTy, TInt, TBool, TStr, TList, TEntity}
use Rattle.py_tree.specs.PlainExpressions.{PlainExpr, PAttr, PCall, PApply, PIndex, PChain, PCompare, PIsNone, PCond, PlainExprs, PNoExpr, PExpr, PlainLinks}
use Rattle.py_tree.specs.ClassRules.{PlainSigParam, PlainSig, PlainTable, is_self}
use Rattle.py_tree.specs.FlowEnvironment.{PlainEnv, has_none, where_test}
use Rattle.py_tree.specs.ExpressionTypes.{same_ty, join, is_int, is_bool, is_str, is_list, element_of, class_of_ty, table_named, field_of, method_of, Function, Length, Text, Absolute, Least, Greatest, function_of, refuse_if, needs, with_found, place_of, count_of, operand, fits, is_plus, are_joined, are_ints, combined, ordered, compared, comparison, type_of_empty, as_condition, is_str_or_list, applied, type_of, conditions, arguments, each_is, elements, linked, assignable}
use Rattle.py_tree.proofs.TypeLaws.{same-true}

-- Results

abbrev pub done : {A : Type 0} → A → Result A RuleFault
done x = Ok x

abbrev pub failed : {A : Type 0} → RuleFault → Result A RuleFault
failed e = Err e

pub err_ok : {A : Type 0} (e : RuleFault) (x : A) → failed e ≡ done x → ⊥
err_ok e x h = cc

pub same_ok : {A : Type 0} (x y : A) → done x ≡ Ok y → x ≡ y
same_ok x y h = cc

pub found_ok : {X A : Type 0} (r : Result X RuleFault) (f : X → Result A RuleFault) (t : A) → with_found r f ≡ Ok t → (x : X) × (r ≡ Ok x) × (f x ≡ Ok t)
found_ok (Ok x) f t h = (x, refl, h)
found_ok (Err e) f t h = absurd (err_ok e t h)

pub refuse_ok : {A : Type 0} (b : Bool) (rule : Rule) (place : Place) (rest : Result A RuleFault) (t : A) → refuse_if b rule place rest ≡ Ok t → (b ≡ false) × (rest ≡ Ok t)
refuse_ok true rule place rest t h = absurd (err_ok _ t h)
refuse_ok false rule place rest t h = (refl, h)

pub needs_ok : {X A : Type 0} (o : Option X) (rule : Rule) (place : Place) (f : X → Result A RuleFault) (t : A) → needs o rule place f ≡ Ok t → (x : X) × (o ≡ Some x) × (f x ≡ Ok t)
needs_ok None rule place f t h = absurd (err_ok _ t h)
needs_ok (Some x) rule place f t h = (x, refl, h)

pub not_false : (b : Bool) → not b ≡ false → b ≡ true
not_false true h = refl
not_false false h = absurd (true≢false h)

pub passes_ok : {A : Type 0} (b : Bool) (rule : Rule) (place : Place) (rest : Result A RuleFault) (t : A) → refuse_if (not b) rule place rest ≡ Ok t → (b ≡ true) × (rest ≡ Ok t)
passes_ok true rule place rest t h = (refl, h)
passes_ok false rule place rest t h = absurd (err_ok _ t h)

pub operand_ok : {A : Type 0} (ty : PlainTy) (test : PlainTy → Bool) (place : Place) (rest : Result A RuleFault) (t : A) → operand ty test place rest ≡ Ok t → (test ty ≡ true) × (rest ≡ Ok t)
operand_ok ty test place rest t h = passes_ok (test ty) Operand place rest t (refuse_ok (has_none ty) NoneUse place (refuse_if (not (test ty)) Operand place rest) t h).1

pub either_true : (a b : Bool) → (a || b) ≡ true → (a ≡ true) ⊎ (b ≡ true)
either_true true b h = inl refl
either_true false b h = inr h

pub either_false : (a b : Bool) → (a || b) ≡ false → (a ≡ false) × (b ≡ false)
either_false true b h = absurd (true≢false h)
either_false false b h = (refl, h)

pub both_true : (a b : Bool) → (a && b) ≡ true → (a ≡ true) × (b ≡ true)
both_true true b h = (refl, h)
both_true false b h = absurd (true≢false (sym h))

-- Kinds of types

pub int_is : (t : PlainTy) → is_int t ≡ true → t ≡ TInt
int_is TInt h = refl
int_is _ h = absurd (true≢false (sym h))

pub bool_is : (t : PlainTy) → is_bool t ≡ true → t ≡ TBool
bool_is TBool h = refl
bool_is _ h = absurd (true≢false (sym h))

pub str_is : (t : PlainTy) → is_str t ≡ true → t ≡ TStr
str_is TStr h = refl
str_is _ h = absurd (true≢false (sym h))

pub list_is : (t : PlainTy) → is_list t ≡ true → (u : PlainTy) × (t ≡ TList u)
list_is (TList u) h = (u, refl)
list_is _ h = absurd (true≢false (sym h))

pub element_is : (t u : PlainTy) → element_of t ≡ Some u → t ≡ TList u
element_is (TList s) u h = ap TList (same_Some _ _ h)
element_is _ u h = absurd (none-some u h)

pub class_is : (t : PlainTy) (c : ℕ) → class_of_ty t ≡ Some c → t ≡ TEntity c
class_is (TEntity d) c h = ap TEntity (same_Some _ _ h)
class_is _ c h = absurd (none-some c h)

-- Rules on operators

pub condition_ok : (place : Place) (found : Result PlainTy RuleFault) (t : PlainTy) → as_condition place found ≡ Ok t → (found ≡ Ok TBool) × (t ≡ TBool)
unfolding as_condition
condition_ok place (Ok u) t h =
    let p : (is_bool u ≡ true) × (done TBool ≡ Ok t) = operand_ok u is_bool place (Ok TBool) t h in
    (ap Ok (bool_is u p.0), sym (same_ok TBool t p.1))
condition_ok place (Err e) t h = absurd (err_ok e t h)

-- two numbers, or with `+` two texts or two lists of one type
pub data Joins : BinOp → PlainTy → PlainTy → Type 0 where
  numbers : {o : BinOp} → Joins o TInt TInt
  texts : Joins op.Add TStr TStr
  lists : {u : PlainTy} → Joins op.Add (TList u) (TList u)

joined_alike : (s t : PlainTy) → s ≡ t → (is_str s || is_list s) ≡ true → Joins op.Add s t
joined_alike TStr t e h = subst (Joins op.Add TStr) e texts
joined_alike (TList u) t e h = subst (Joins op.Add (TList u)) e lists
joined_alike _ t e h = absurd (true≢false (sym h))

joined_by : (o : BinOp) (s t : PlainTy) → (is_plus o && are_joined s t) ≡ true → Joins o s t
joined_by op.Add s t h =
    let p : (same_ty s t ≡ true) × ((is_str s || is_list s) ≡ true) = both_true (same_ty s t) (is_str s || is_list s) h in
    joined_alike s t (same-true s t p.0) p.1
joined_by _ s t h = absurd (true≢false (sym h))

pub joins_numbers : (o : BinOp) (s t : PlainTy) → s ≡ TInt → t ≡ TInt → Joins o s t
joins_numbers o s t e f = subst (λ u. Joins o u t) (sym e) (subst (λ u. Joins o TInt u) (sym f) numbers)

pub combined_ok : (o : BinOp) (place : Place) (s t both : PlainTy) → combined o place s t ≡ Ok both → (s ≡ both) × Joins o s t
unfolding combined
combined_ok o place s t both h =
    let rest : Result PlainTy RuleFault = refuse_if (not (are_ints s t || (is_plus o && are_joined s t))) Operand place (Ok s) in
    let p : ((are_ints s t || (is_plus o && are_joined s t)) ≡ true) × (done s ≡ Ok both) = passes_ok (are_ints s t || (is_plus o && are_joined s t)) Operand place (Ok s) both (refuse_ok (has_none s || has_none t) NoneUse place rest both h).1 in
    (same_ok s both p.1, by (either_true (are_ints s t) (is_plus o && are_joined s t) p.0))
  where
    by : (are_ints s t ≡ true) ⊎ ((is_plus o && are_joined s t) ≡ true) → Joins o s t
    by (inl e) = let q : (is_int s ≡ true) × (is_int t ≡ true) = both_true (is_int s) (is_int t) e in joins_numbers o s t (int_is s q.0) (int_is t q.1)
    by (inr e) = joined_by o s t e

ordered_ok : (place : Place) (s t u : PlainTy) → ordered place s t ≡ Ok u → u ≡ TBool
unfolding ordered
ordered_ok place s t u h =
    let rest : Result PlainTy RuleFault = refuse_if (not (are_ints s t || (is_str s && is_str t))) Operand place (Ok TBool) in
    sym (same_ok TBool u (refuse_ok (not (are_ints s t || (is_str s && is_str t))) Operand place (Ok TBool) u (refuse_ok (has_none s || has_none t) NoneUse place rest u h).1).1)

compared_ok : (place : Place) (s t u : PlainTy) → compared place s t ≡ Ok u → u ≡ TBool
unfolding compared
compared_ok place s t u h = sym (same_ok TBool u (refuse_ok (is_none (join s t)) Mismatch place (Ok TBool) u h).1)

pub comparison_ok : (c : Cmp) (op_at at : Place) (s t u : PlainTy) → comparison c op_at at s t ≡ Ok u → u ≡ TBool
unfolding comparison
comparison_ok cmp.Eq op_at at s t u h = compared_ok at s t u h
comparison_ok cmp.Ne op_at at s t u h = compared_ok at s t u h
comparison_ok _ op_at at s t u h = ordered_ok op_at s t u h

pub empty_ok : (wanted : Option PlainTy) (at : Place) (ty : PlainTy) → type_of_empty wanted at ≡ Ok ty → (u : PlainTy) × (TList u ≡ ty)
empty_ok None at ty h = absurd (err_ok _ ty h)
empty_ok (Some u) at ty h = (u, same_ok (TList u) ty h)

-- Expressions

module _ (tables : List PlainTable) (env : PlainEnv) (wanted : Option PlainTy) (at : Place) (ty : PlainTy) where
  abbrev IsTyped : PlainExpr → PlainTy → Type 0
  IsTyped e t = type_of tables env None e ≡ Ok t

  pub typed_index : (on index : PlainExpr) → type_of tables env wanted (PIndex at on index) ≡ Ok ty → IsTyped on (TList ty) × IsTyped index TInt
  unfolding type_of
  typed_index on index h =
      let then_number : PlainTy → PlainTy → Result PlainTy RuleFault = λ element i. refuse_if (not (is_int i)) Operand (place_of index) (Ok element) in
      let then_index : PlainTy → Result PlainTy RuleFault = λ element. with_found (type_of tables env None index) (then_number element) in
      let then_list : PlainTy → Result PlainTy RuleFault = λ t. refuse_if (has_none t) NoneUse (place_of on) (needs (element_of t) Operand (place_of on) then_index) in
      let a : (t : PlainTy) × IsTyped on t × (then_list t ≡ Ok ty) = found_ok (type_of tables env None on) then_list ty h in
      let b : (u : PlainTy) × (element_of a.0 ≡ Some u) × (then_index u ≡ Ok ty) = needs_ok (element_of a.0) Operand (place_of on) then_index ty (refuse_ok (has_none a.0) NoneUse (place_of on) (needs (element_of a.0) Operand (place_of on) then_index) ty a.2).1 in
      let c : (i : PlainTy) × IsTyped index i × (then_number b.0 i ≡ Ok ty) = found_ok (type_of tables env None index) (then_number b.0) ty b.2 in
      let d : (is_int c.0 ≡ true) × (done b.0 ≡ Ok ty) = passes_ok (is_int c.0) Operand (place_of index) (Ok b.0) ty c.2 in
      (a.1 ∙ ap Ok (element_is a.0 b.0 b.1 ∙ ap TList (same_ok b.0 ty d.1)), c.1 ∙ ap Ok (int_is c.0 d.0))

  pub typed_call : (on : PlainExpr) (x : ℕ) (x_at : Place) (args : PlainExprs) → type_of tables env wanted (PCall at on x x_at args) ≡ Ok ty
      → (c : ℕ) × (m : PlainSig) × IsTyped on (TEntity c) × (method_of tables c x ≡ Some m) × ((count_of args == length m.params) ≡ true) × (arguments tables env args m.params m.result ≡ Ok ty)
  unfolding type_of
  typed_call on x x_at args h =
      let then_args : PlainSig → Result PlainTy RuleFault = λ m. refuse_if (not (count_of args == length m.params)) ArgCount x_at (arguments tables env args m.params m.result) in
      let then_method : ℕ → Result PlainTy RuleFault = λ class. needs (method_of tables class x) UnknownMethod x_at then_args in
      let then_class : PlainTy → Result PlainTy RuleFault = λ t. refuse_if (has_none t) NoneUse (place_of on) (needs (class_of_ty t) Operand (place_of on) then_method) in
      let a : (t : PlainTy) × IsTyped on t × (then_class t ≡ Ok ty) = found_ok (type_of tables env None on) then_class ty h in
      let b : (c : ℕ) × (class_of_ty a.0 ≡ Some c) × (then_method c ≡ Ok ty) = needs_ok (class_of_ty a.0) Operand (place_of on) then_method ty (refuse_ok (has_none a.0) NoneUse (place_of on) (needs (class_of_ty a.0) Operand (place_of on) then_method) ty a.2).1 in
      let c : (m : PlainSig) × (method_of tables b.0 x ≡ Some m) × (then_args m ≡ Ok ty) = needs_ok (method_of tables b.0 x) UnknownMethod x_at then_args ty b.2 in
      let d : ((count_of args == length c.0.params) ≡ true) × (arguments tables env args c.0.params c.0.result ≡ Ok ty) = passes_ok (count_of args == length c.0.params) ArgCount x_at (arguments tables env args c.0.params c.0.result) ty c.2 in
      (b.0, c.0, a.1 ∙ ap Ok (class_is a.0 b.0 b.1), c.1, d.0, d.1)

  pub typed_attr : (on : PlainExpr) (x : ℕ) (x_at : Place) → type_of tables env wanted (PAttr at on x x_at) ≡ Ok ty → (is_self on ≡ true) × (field_of tables env.class x ≡ Some ty)
  unfolding type_of
  typed_attr on x x_at h =
      let a : (is_self on ≡ true) × (needs (field_of tables env.class x) UnknownField x_at (λ t. Ok t) ≡ Ok ty) = passes_ok (is_self on) RemoteField x_at (needs (field_of tables env.class x) UnknownField x_at (λ t. Ok t)) ty h in
      let b : (t : PlainTy) × (field_of tables env.class x ≡ Some t) × (done t ≡ Ok ty) = needs_ok (field_of tables env.class x) UnknownField x_at (λ t. Ok t) ty a.1 in
      (a.0, b.1 ∙ ap Some (same_ok b.0 ty b.2))

  pub typed_number : (a : PlainExpr) → with_found (type_of tables env None a) (λ t. operand t is_int (place_of a) (Ok TInt)) ≡ Ok ty → IsTyped a TInt × (ty ≡ TInt)
  typed_number a h =
      let p : (t : PlainTy) × IsTyped a t × (operand t is_int (place_of a) (Ok TInt) ≡ Ok ty) = found_ok (type_of tables env None a) (λ t. operand t is_int (place_of a) (Ok TInt)) ty h in
      let q : (is_int p.0 ≡ true) × (done TInt ≡ Ok ty) = operand_ok p.0 is_int (place_of a) (Ok TInt) ty p.2 in
      (p.1 ∙ ap Ok (int_is p.0 q.0), sym (same_ok TInt ty q.1))

  pub typed_compare : (o : Cmp) (op_at : Place) (left right : PlainExpr) → type_of tables env wanted (PCompare at o op_at left right) ≡ Ok ty
      → (s : PlainTy) × (t : PlainTy) × IsTyped left s × IsTyped right t × (ty ≡ TBool)
  unfolding type_of
  typed_compare o op_at left right h =
      let a : (s : PlainTy) × IsTyped left s × (with_found (type_of tables env None right) (λ t. comparison o op_at (place_of right) s t) ≡ Ok ty) = found_ok (type_of tables env None left) (λ s. with_found (type_of tables env None right) (λ t. comparison o op_at (place_of right) s t)) ty h in
      let b : (t : PlainTy) × IsTyped right t × (comparison o op_at (place_of right) a.0 t ≡ Ok ty) = found_ok (type_of tables env None right) (λ t. comparison o op_at (place_of right) a.0 t) ty a.2 in
      (a.0, b.0, a.1, b.1, comparison_ok o op_at (place_of right) a.0 b.0 ty b.2)

  pub typed_none_test : (a : PlainExpr) (positive : Bool) → type_of tables env wanted (PIsNone at a positive) ≡ Ok ty → (t : PlainTy) × IsTyped a t × (ty ≡ TBool)
  unfolding type_of
  typed_none_test a positive h =
      let p : (t : PlainTy) × IsTyped a t × (done TBool ≡ Ok ty) = found_ok (type_of tables env None a) (λ t. Ok TBool) ty h in
      (p.0, p.1, sym (same_ok TBool ty p.2))

  pub typed_chain : (first : PlainExpr) (links : PlainLinks) → type_of tables env wanted (PChain at first links) ≡ Ok ty → (t : PlainTy) × IsTyped first t × (linked tables env t links ≡ Ok ty)
  unfolding type_of
  typed_chain first links h = found_ok (type_of tables env None first) (λ t. linked tables env t links) ty h

  pub typed_cond : (test a b : PlainExpr) → type_of tables env wanted (PCond at test a b) ≡ Ok ty
      → (s : PlainTy) × (t : PlainTy) × IsTyped test TBool × (type_of tables (where_test true test env) wanted a ≡ Ok s) × (type_of tables (where_test false test env) wanted b ≡ Ok t) × (join s t ≡ Some ty)
  unfolding type_of
  typed_cond test a b h =
      let then_join : PlainTy → PlainTy → Result PlainTy RuleFault = λ s t. needs (join s t) Mismatch (place_of b) (λ u. Ok u) in
      let then_no : PlainTy → Result PlainTy RuleFault = λ s. with_found (type_of tables (where_test false test env) wanted b) (then_join s) in
      let then_yes : PlainTy → Result PlainTy RuleFault = λ c. with_found (type_of tables (where_test true test env) wanted a) then_no in
      let p : (c : PlainTy) × (as_condition (place_of test) (type_of tables env None test) ≡ Ok c) × (then_yes c ≡ Ok ty) = found_ok (as_condition (place_of test) (type_of tables env None test)) then_yes ty h in
      let q : (s : PlainTy) × (type_of tables (where_test true test env) wanted a ≡ Ok s) × (then_no s ≡ Ok ty) = found_ok (type_of tables (where_test true test env) wanted a) then_no ty p.2 in
      let r : (t : PlainTy) × (type_of tables (where_test false test env) wanted b ≡ Ok t) × (then_join q.0 t ≡ Ok ty) = found_ok (type_of tables (where_test false test env) wanted b) (then_join q.0) ty q.2 in
      let u : (u : PlainTy) × (join q.0 r.0 ≡ Some u) × (done u ≡ Ok ty) = needs_ok (join q.0 r.0) Mismatch (place_of b) (λ u. Ok u) ty r.2 in
      (q.0, r.0, (condition_ok (place_of test) (type_of tables env None test) p.0 p.1).0, q.1, r.1, u.1 ∙ ap Some (same_ok u.0 ty u.2))

  pub typed_apply : (x : ℕ) (args : PlainExprs) → type_of tables env wanted (PApply at x args) ≡ Ok ty → applied (function_of x) (table_named tables x) at (count_of args) (λ test result. each_is test tables env args result) (λ params result. arguments tables env args params result) ≡ Ok ty
  unfolding type_of
  typed_apply x args h = h

module _ (tables : List PlainTable) where
  -- a call's type is its result type
  pub arguments_result : (env : PlainEnv) (xs : PlainExprs) (params : List PlainSigParam) (result ty : PlainTy) → arguments tables env xs params result ≡ Ok ty → result ≡ ty
  unfolding type_of
  arguments_result env PNoExpr params result ty h = same_ok result ty h
  arguments_result env (PExpr x xs) [] result ty h = same_ok result ty h
  arguments_result env (PExpr x xs) (p ∷ ps) result ty h =
      let a : (t : PlainTy) × (type_of tables env (Some p.ty) x ≡ Ok t) × (fits t p.ty (place_of x) (arguments tables env xs ps result) ≡ Ok ty) = found_ok (type_of tables env (Some p.ty) x) (λ t. fits t p.ty (place_of x) (arguments tables env xs ps result)) ty h in
      arguments_result env xs ps result ty (passes_ok (assignable a.0 p.ty) Mismatch (place_of x) (arguments tables env xs ps result) ty a.2).1

  pub each_result : (test : PlainTy → Bool) (env : PlainEnv) (xs : PlainExprs) (result ty : PlainTy) → each_is test tables env xs result ≡ Ok ty → result ≡ ty
  unfolding type_of
  each_result test env PNoExpr result ty h = same_ok result ty h
  each_result test env (PExpr x xs) result ty h =
      let a : (t : PlainTy) × (type_of tables env None x ≡ Ok t) × (operand t test (place_of x) (each_is test tables env xs result) ≡ Ok ty) = found_ok (type_of tables env None x) (λ t. operand t test (place_of x) (each_is test tables env xs result)) ty h in
      each_result test env xs result ty (operand_ok a.0 test (place_of x) (each_is test tables env xs result) ty a.2).1

  pub elements_result : (env : PlainEnv) (element : PlainTy) (xs : PlainExprs) (ty : PlainTy) → elements tables env element xs ≡ Ok ty → TList element ≡ ty
  unfolding type_of
  elements_result env element PNoExpr ty h = same_ok (TList element) ty h
  elements_result env element (PExpr x xs) ty h =
      let a : (t : PlainTy) × (type_of tables env (Some element) x ≡ Ok t) × (fits t element (place_of x) (elements tables env element xs) ≡ Ok ty) = found_ok (type_of tables env (Some element) x) (λ t. fits t element (place_of x) (elements tables env element xs)) ty h in
      elements_result env element xs ty (passes_ok (assignable a.0 element) Mismatch (place_of x) (elements tables env element xs) ty a.2).1

  pub conditions_result : (env : PlainEnv) (truth : Bool) (xs : PlainExprs) (ty : PlainTy) → conditions tables env truth xs ≡ Ok ty → TBool ≡ ty
  unfolding type_of
  conditions_result env truth PNoExpr ty h = same_ok TBool ty h
  conditions_result env truth (PExpr x xs) ty h =
      let a : (c : PlainTy) × (as_condition (place_of x) (type_of tables env None x) ≡ Ok c) × (conditions tables (where_test truth x env) truth xs ≡ Ok ty) = found_ok (as_condition (place_of x) (type_of tables env None x)) (λ c. conditions tables (where_test truth x env) truth xs) ty h in
      conditions_result (where_test truth x env) truth xs ty a.2

-- what a function gives
abbrev pub type_given : Function → PlainTy
type_given Text = TStr
type_given _ = TInt

module _ (class : Option PlainTable) (at : Place) (count : ℕ) (each : (PlainTy → Bool) → PlainTy → Result PlainTy RuleFault) (fit : List PlainSigParam → PlainTy → Result PlainTy RuleFault) (ty : PlainTy) where
  pub typed_function : (f : Function) → applied (Some f) class at count each fit ≡ Ok ty → (test : PlainTy → Bool) × (each test (type_given f) ≡ Ok ty)
  unfolding applied
  typed_function Length h = (is_str_or_list, (passes_ok (count == 1) ArgCount at (each is_str_or_list TInt) ty h).1)
  typed_function Text h = (is_int, (passes_ok (count == 1) ArgCount at (each is_int TStr) ty h).1)
  typed_function Absolute h = (is_int, (passes_ok (count == 1) ArgCount at (each is_int TInt) ty h).1)
  typed_function Least h = (is_int, (passes_ok (count == 2) ArgCount at (each is_int TInt) ty h).1)
  typed_function Greatest h = (is_int, (passes_ok (count == 2) ArgCount at (each is_int TInt) ty h).1)

  pub typed_creation : applied None class at count each fit ≡ Ok ty → (c : PlainTable) × (class ≡ Some c) × ((count == length c.init) ≡ true) × (fit c.init (TEntity c.name) ≡ Ok ty)
  unfolding applied
  typed_creation h =
      let a : (c : PlainTable) × (class ≡ Some c) × (refuse_if (not (count == length c.init)) ArgCount at (fit c.init (TEntity c.name)) ≡ Ok ty) = needs_ok class UnknownName at (λ c. refuse_if (not (count == length c.init)) ArgCount at (fit c.init (TEntity c.name))) ty h in
      let b : ((count == length a.0.init) ≡ true) × (fit a.0.init (TEntity a.0.name) ≡ Ok ty) = passes_ok (count == length a.0.init) ArgCount at (fit a.0.init (TEntity a.0.name)) ty a.2 in
      (a.0, a.1, b.0, b.1)
