-- What is known of the variables of a method at a point, and that a way to a point leads on from there.
use Rattle.std.proofs.Common.{◌≡◌, ℕ, Bool, true, false, cond, Option, Some, None, List, [], ◌∷◌, map as over, ◌⊎◌, inl, inr, refl, sym, ap, ◌∙◌, subst, true≢false}
use Rattle.std.specs.Prelude.{◌==◌, ◌||◌, find, position, slice_get, option_map, is_some}
use Rattle.std.specs.List.{All, list_all}
use Rattle.std.specs.Cmp.Derive.{both_true as both_hold}
use Rattle.std.proofs.lemmas.Bool.{eqb-true}
use Rattle.std.proofs.lemmas.Option.{same_Some, none-some}
use Rattle.py_tree.specs.PlainTypes.{PlainTy, TOptional}
use Rattle.py_tree.specs.FlowEnvironment.{PlainLocal, local_of}
use Rattle.py_tree.specs.ExpressionTypes.{same_ty, inside, read_ty, is_held, assignable}
use Rattle.py_tree.proofs.TypeLaws.{same-true, same-refl}
use Rattle.program_meaning.proofs.TypedParts.{both_true, either_true}
use Rattle.program_meaning.proofs.LocalShapes.{Shape, shape, shapes, type_in, type_found}
use Rattle.program_meaning.proofs.Places.{found_at, found_passes}
use Rattle.block_code.specs.PlainVars.{PlainVar}
use Rattle.block_code.specs.GraphFits.{is_var, is_inside, local_at, at_start, is_supplied, supplied, each_once, is_param_of}
use Rattle.block_runs.proofs.Variables.{all_of_each, each_passes, any_found}
use Rattle.flat_tree.specs.PlainFlat.{Point}
use Rattle.flat_types.specs.FlatTypes.{is_point, Supplies}

-- Types

either_left : (a b : Bool) → a ≡ true → (a || b) ≡ true
either_left true b h = refl
either_left false b h = absurd (true≢false (sym h))

either_right : (a b : Bool) → b ≡ true → (a || b) ≡ true
either_right true b h = refl
either_right false b h = h

same_assignable : (t u : PlainTy) → t ≡ u → assignable t u ≡ true
unfolding assignable
same_assignable t u e = either_left (same_ty t u) (is_held t u) (subst (λ v. same_ty t v ≡ true) e (same-refl t))

inside_assignable : (t : PlainTy) → assignable (inside t) t ≡ true
unfolding assignable
inside_assignable (TOptional u) = either_right (same_ty u (TOptional u)) _ (either_left (same_ty u u) _ (same-refl u))
inside_assignable t = same_assignable t t refl

held : (t u : PlainTy) → is_inside t u ≡ true → u ≡ inside t
held (TOptional w) u e = sym (same-true w u e)
held _ u e = absurd (true≢false (sym e))

-- what is read of a variable: its own type, or what its Optional holds
abbrev IsRead : PlainTy → PlainTy → Type 0
IsRead t read = (read ≡ t) ⊎ (read ≡ inside t)

param_is : (t u : PlainTy) → (same_ty t u || is_inside t u) ≡ true → IsRead t u
param_is t u h = by (either_true (same_ty t u) (is_inside t u) h)
  where
    by : (same_ty t u ≡ true) ⊎ (is_inside t u ≡ true) → IsRead t u
    by (inl e) = inl (sym (same-true t u e))
    by (inr e) = inr (held t u e)

-- what is read of a variable goes on to where its parameter goes on
read_on : (t read p q : PlainTy) → IsRead t read → (same_ty t p || is_inside t p) ≡ true → (same_ty t q || is_inside t q) ≡ true → assignable read p ≡ true → assignable (cond (is_inside t p) (inside t) t) q ≡ true → assignable read q ≡ true
read_on t read p q r first second to_p to_q = by r (param_is t q second)
  where
    whole : (b : Bool) → is_inside t p ≡ b → read ≡ t → q ≡ inside t → assignable (cond b (inside t) t) q ≡ true → assignable read q ≡ true
    whole true e f g to_q = subst (λ u. assignable read u ≡ true) (held t p e ∙ sym g) to_p
    whole false e f g to_q = subst (λ u. assignable u q ≡ true) (sym f) to_q

    by : IsRead t read → IsRead t q → assignable read q ≡ true
    by (inl f) (inl g) = same_assignable read q (f ∙ sym g)
    by (inl f) (inr g) = whole (is_inside t p) refl f g to_q
    by (inr f) (inl g) = subst (λ u. assignable u q ≡ true) (sym f) (subst (λ u. assignable (inside t) u ≡ true) (sym g) (inside_assignable t))
    by (inr f) (inr g) = same_assignable read q (f ∙ sym g)

-- Variables

abbrev pub shape_of_var : PlainVar → Shape
shape_of_var v = (v.name, v.ty)

-- locals that are the variables of a method, with their types
abbrev pub AreVariables : List PlainVar → List PlainLocal → Type 0
AreVariables variables locals = shapes locals ≡ over shape_of_var variables

shape_at : (v : PlainVar) (o : Option PlainVar) → shape (local_at v o) ≡ shape_of_var v
shape_at v None = refl
shape_at v (Some p) = refl

typed_among : (vs : List PlainVar) (x : ℕ) (v : PlainVar) → find (is_var x) vs ≡ Some v → type_in (over shape_of_var vs) x ≡ Some v.ty
typed_among [] x v h = absurd (none-some v h)
typed_among (u ∷ vs) x v h = by (u.name == x) h (typed_among vs x v)
  where
    by : (b : Bool) → cond b (Some u) (find (is_var x) vs) ≡ Some v → (find (is_var x) vs ≡ Some v → type_in (over shape_of_var vs) x ≡ Some v.ty) → cond b (Some u.ty) (type_in (over shape_of_var vs) x) ≡ Some v.ty
    by true h rest = ap (option_map (λ (w : PlainVar). w.ty)) h
    by false h rest = rest h

module _ (variables : List PlainVar) (point : Point) where
  abbrev begins : PlainVar → PlainLocal
  begins v = local_at v (find (is_var v.name) point)

  each_shape : (vs : List PlainVar) → shapes (over begins vs) ≡ over shape_of_var vs
  each_shape [] = refl
  each_shape (v ∷ vs) = ap (λ s. s ∷ shapes (over begins vs)) (shape_at v (find (is_var v.name) point)) ∙ ap (λ ss. shape_of_var v ∷ ss) (each_shape vs)

  pub start_variables : AreVariables variables (at_start variables point)
  unfolding at_start
  start_variables = each_shape variables

  named : (v : PlainVar) (o : Option PlainVar) → (local_at v o).name ≡ v.name
  named v None = refl
  named v (Some p) = refl

  each_local : (vs : List PlainVar) (x : ℕ) (v : PlainVar) → find (is_var x) vs ≡ Some v → local_of (over begins vs) x ≡ Some (begins v)
  unfolding local_of
  each_local [] x v h = absurd (none-some v h)
  each_local (u ∷ vs) x v h = ap (λ y. cond (y == x) (Some (begins u)) (local_of (over begins vs) x)) (named u (find (is_var u.name) point)) ∙ by (u.name == x) h (each_local vs x v)
    where
      by : (b : Bool) → cond b (Some u) (find (is_var x) vs) ≡ Some v → (find (is_var x) vs ≡ Some v → local_of (over begins vs) x ≡ Some (begins v)) → cond b (Some (begins u)) (local_of (over begins vs) x) ≡ Some (begins v)
      by true h rest = ap (option_map begins) h
      by false h rest = rest h

  start_local : (x : ℕ) (v : PlainVar) → find (is_var x) variables ≡ Some v → local_of (at_start variables point) x ≡ Some (begins v)
  unfolding at_start
  start_local x v h = each_local variables x v h

  module _ (once : each_once variables ≡ true) (is : is_point variables point ≡ true) where
    abbrev HasTypeOf : ℕ → PlainTy → Type 0
    HasTypeOf x ty = (v : PlainVar) × (find (is_var x) variables ≡ Some v) × ((same_ty v.ty ty || is_inside v.ty ty) ≡ true)

    variable_of : (p : PlainVar) → is_param_of variables p ≡ true → HasTypeOf p.name p.ty
    variable_of p h = any_found variables p.name (λ v. same_ty v.ty p.ty || is_inside v.ty p.ty) once h

    -- a parameter of the point
    param_of : (x : ℕ) (p : PlainVar) → find (is_var x) point ≡ Some p → (p.name ≡ x) × (is_param_of variables p ≡ true)
    param_of x p h =
        let at : (k : ℕ) × (position (is_var x) point ≡ Some k) × (slice_get point k ≡ Some p) = found_at (is_var x) point p h in
        (eqb-true p.name x (found_passes (is_var x) point p h), each_passes (is_param_of variables) point at.0 p (both_true (list_all (is_param_of variables) point) (each_once point) is).0 at.2)

    -- each of these locals reads as its variable's type, or as what its Optional holds
    reads : (locals : List PlainLocal) (x : ℕ) (v : PlainVar) → AreVariables variables locals → find (is_var x) variables ≡ Some v → (l : PlainLocal) → local_of locals x ≡ Some l → IsRead v.ty (read_ty l)
    reads locals x v are h l e =
        let same : l.ty ≡ v.ty = same_Some _ _ (sym (ap (option_map (λ (l : PlainLocal). l.ty)) e) ∙ type_found locals x ∙ ap (λ ss. type_in ss x) are ∙ typed_among variables x v h) in
        by l.not_none (read_ty l) refl same
      where
        by : (b : Bool) (read : PlainTy) → cond b (inside l.ty) l.ty ≡ read → l.ty ≡ v.ty → IsRead v.ty read
        by true read f same = inr (sym f ∙ ap inside same)
        by false read f same = inl (sym f ∙ same)

    -- a way to the point supplies what a way from there supplies
    one_on : (locals : List PlainLocal) (q : PlainVar) → AreVariables variables locals → supplied locals point ≡ true → is_param_of variables q ≡ true → is_supplied (local_of (at_start variables point) q.name) q.ty ≡ true → is_supplied (local_of locals q.name) q.ty ≡ true
    one_on locals q are enough of_q h = by (find (is_var v.name) point) refl (subst (λ o. is_supplied o q.ty ≡ true) (start_local q.name v found) h)
      where
        one : HasTypeOf q.name q.ty
        one = variable_of q of_q

        v : PlainVar
        v = one.0

        found : find (is_var q.name) variables ≡ Some v
        found = one.1

        by_local : (p : PlainVar) → (same_ty v.ty p.ty || is_inside v.ty p.ty) ≡ true → assignable (cond (is_inside v.ty p.ty) (inside v.ty) v.ty) q.ty ≡ true
            → (o : Option PlainLocal) → local_of locals q.name ≡ o → is_supplied o p.ty ≡ true → is_supplied o q.ty ≡ true
        by_local p typed to_q None e h = absurd (true≢false (sym h))
        by_local p typed to_q (Some l) e h =
            let b : (l.assigned ≡ true) × (assignable (read_ty l) p.ty ≡ true) = both_true l.assigned (assignable (read_ty l) p.ty) h in
            both_hold b.0 (read_on v.ty (read_ty l) p.ty q.ty (reads locals q.name v are found l e) typed one.2 b.1 to_q)

        by : (o : Option PlainVar) → find (is_var v.name) point ≡ o → is_supplied (Some (local_at v o)) q.ty ≡ true → is_supplied (local_of locals q.name) q.ty ≡ true
        by None e h = absurd (true≢false (sym h))
        by (Some p) e h =
            let named_q : v.name ≡ q.name = eqb-true v.name q.name (found_passes (is_var q.name) variables v found) in
            let is_p : (p.name ≡ v.name) × (is_param_of variables p ≡ true) = param_of v.name p e in
            let mine : HasTypeOf p.name p.ty = variable_of p is_p.1 in
            let same : mine.0 ≡ v = same_Some _ _ (sym mine.1 ∙ ap (λ x. find (is_var x) variables) (is_p.0 ∙ named_q) ∙ found) in
            let at : (k : ℕ) × (position (is_var v.name) point ≡ Some k) × (slice_get point k ≡ Some p) = found_at (is_var v.name) point p e in
            let given : is_supplied (local_of locals p.name) p.ty ≡ true = each_passes (λ (p : PlainVar). is_supplied (local_of locals p.name) p.ty) point at.0 p enough at.2 in
            by_local p (subst (λ (u : PlainVar). (same_ty u.ty p.ty || is_inside u.ty p.ty) ≡ true) same mine.2) h
            (local_of locals q.name) refl (subst (λ x. is_supplied (local_of locals x) p.ty ≡ true) (is_p.0 ∙ named_q) given)

    each_on : (locals : List PlainLocal) (qs : List PlainVar) → AreVariables variables locals → supplied locals point ≡ true → list_all (is_param_of variables) qs ≡ true → supplied (at_start variables point) qs ≡ true → supplied locals qs ≡ true
    each_on locals [] are enough of_qs h = refl
    each_on locals (q ∷ qs) are enough of_qs h =
        let a : (is_param_of variables q ≡ true) × (list_all (is_param_of variables) qs ≡ true) = both_true (is_param_of variables q) _ of_qs in
        let b : (is_supplied (local_of (at_start variables point) q.name) q.ty ≡ true) × (supplied (at_start variables point) qs ≡ true) = both_true (is_supplied (local_of (at_start variables point) q.name) q.ty) _ h in
        both_hold (one_on locals q are enough a.0 b.0) (each_on locals qs are enough a.1 b.1)

    pub supplies_on : (locals : List PlainLocal) (next : Point) → AreVariables variables locals → Supplies point locals → is_point variables next ≡ true → Supplies next (at_start variables point) → Supplies next locals
    supplies_on locals next are enough there h = each_on locals next are enough (both_true (list_all (is_param_of variables) next) (each_once next) there).0 h

    -- what the point supplies is among its own parameters
    one_within : (q : PlainVar) → is_param_of variables q ≡ true → is_supplied (local_of (at_start variables point) q.name) q.ty ≡ true → is_some (find (is_var q.name) point) ≡ true
    one_within q of_q h =
        let one : HasTypeOf q.name q.ty = variable_of q of_q in
        let named_q : (one.0).name ≡ q.name = eqb-true (one.0).name q.name (found_passes (is_var q.name) variables one.0 one.1) in
        subst (λ x. is_some (find (is_var x) point) ≡ true) named_q (by one.0 (find (is_var (one.0).name) point) (subst (λ o. is_supplied o q.ty ≡ true) (start_local q.name one.0 one.1) h))
      where
        by : (v : PlainVar) (o : Option PlainVar) → is_supplied (Some (local_at v o)) q.ty ≡ true → is_some o ≡ true
        by v (Some p) h = refl
        by v None h = absurd (true≢false (sym h))

    pub params_within : (next : Point) → is_point variables next ≡ true → Supplies next (at_start variables point) → All (λ (q : PlainVar). is_some (find (is_var q.name) point) ≡ true) next
    params_within next there h =
        all_of_each (λ (q : PlainVar). is_some (find (is_var q.name) point) ≡ true) next (λ k q is.
        one_within q (each_passes (is_param_of variables) next k q (both_true (list_all (is_param_of variables) next) (each_once next) there).0 is)
        (each_passes (λ (q : PlainVar). is_supplied (local_of (at_start variables point) q.name) q.ty) next k q h is))
