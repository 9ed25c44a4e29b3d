-- The variables at the start of a block: each parameter has a value, so they fit.
use Rattle.std.proofs.Common.{◌≡◌, ℕ, zero, suc, Bool, true, false, cond, not, Option, Some, None, List, [], ◌∷◌, ◌++◌, map as over, refl, sym, ap, ◌∙◌, subst, true≢false}
use Rattle.std.specs.Prelude.{◌==◌, ◌||◌, ◌&&◌, find, filter, position, slice_get, option_map, is_some}
use Rattle.std.specs.List.{All, list_all, list_any}
use Rattle.std.proofs.lemmas.Bool.{eqb-true, eq-eqb}
use Rattle.std.proofs.lemmas.Option.{same_Some, none-some}
use Rattle.std.proofs.lemmas.List.Elements.{All-nil, All-cons}
use Rattle.py_tree.specs.PlainTypes.{PlainTy, TOptional}
use Rattle.py_tree.specs.ClassRules.{PlainTable}
use Rattle.py_tree.specs.FlowEnvironment.{PlainLocal, local_of}
use Rattle.py_tree.specs.ExpressionTypes.{same_ty, inside, read_ty, assignable}
use Rattle.py_tree.specs.Flow.{given, with_local}
use Rattle.py_tree.proofs.TypeLaws.{same-true}
use Rattle.program_meaning.specs.declared.vars.Var.{Var}
use Rattle.program_meaning.specs.PointFits.{ValueFits, VarsFit, no_local, one_local, OneType, HasValue}
use Rattle.program_meaning.proofs.FitsLaws.{fits_same, fits_wider}
use Rattle.program_meaning.proofs.LocalsFit.{local_fits}
use Rattle.program_meaning.proofs.LocalShapes.{Shape, shape, shapes, type_in, type_found, Within, all_in, one_in, Sound, given_if, new_local}
use Rattle.program_meaning.proofs.Places.{found_at, found_passes, any_at}
use Rattle.program_meaning.proofs.TypedParts.{both_true}
use Rattle.block_code.specs.PlainVars.{PlainVar}
use Rattle.block_code.specs.GraphFits.{Asked, is_var, is_inside, local_at, at_start, is_supplied, supplied, each_once, is_param_of}
use Rattle.block_code.specs.EventsFit.{IsKept}

-- Lists

pub each_passes : {A : Type 0} (p : A → Bool) (xs : List A) (k : ℕ) (x : A) → list_all p xs ≡ true → slice_get xs k ≡ Some x → p x ≡ true
each_passes p [] k x h is = absurd (none-some x is)
each_passes p (y ∷ xs) zero x h is = subst (λ z. p z ≡ true) (same_Some _ _ is) (both_true (p y) (list_all p xs) h).0
each_passes p (y ∷ xs) (suc k) x h is = each_passes p xs k x (both_true (p y) (list_all p xs) h).1 is

pub all_of_each : {A : Type 0} (P : A → Type 0) (xs : List A) → ((k : ℕ) (x : A) → slice_get xs k ≡ Some x → P x) → All P xs
all_of_each P [] h = All-nil P
all_of_each P (x ∷ xs) h = All-cons P x xs (h 0 x refl) (all_of_each P xs (λ k y is. h (suc k) y is))

-- Variables of one name each

module _ (x : ℕ) (test : PlainVar → Bool) where
  any_named : (vs : List PlainVar) → list_any (λ v. v.name == x && test v) vs ≡ true → list_any (is_var x) vs ≡ true
  any_named [] h = h
  any_named (v ∷ vs) h = by (v.name == x) h (any_named vs)
    where
      by : (b : Bool) → ((b && test v) || list_any (λ v. v.name == x && test v) vs) ≡ true → (list_any (λ v. v.name == x && test v) vs ≡ true → list_any (is_var x) vs ≡ true) → (b || list_any (is_var x) vs) ≡ true
      by true h rest = refl
      by false h rest = rest h

pub not_among : (v : PlainVar) (vs : List PlainVar) → each_once (v ∷ vs) ≡ true → list_any (is_var v.name) vs ≡ true → ⊥
not_among v vs h e = true≢false (sym (both_true (not (list_any (is_var v.name) vs)) (each_once vs) h).0 ∙ ap not e)

pub once_behind : (v : PlainVar) (vs : List PlainVar) → each_once (v ∷ vs) ≡ true → each_once vs ≡ true
once_behind v vs h = (both_true (not (list_any (is_var v.name) vs)) (each_once vs) h).1

-- each is the one of its name
pub found_once : (vs : List PlainVar) (k : ℕ) (v : PlainVar) → each_once vs ≡ true → slice_get vs k ≡ Some v → find (is_var v.name) vs ≡ Some v
found_once [] k v once is = absurd (none-some v is)
found_once (u ∷ vs) zero v once is = ap (λ b. cond b (Some u) (find (is_var v.name) vs)) (eq-eqb u.name v.name (ap (λ (w : PlainVar). w.name) (same_Some _ _ is))) ∙ is
found_once (u ∷ vs) (suc k) v once is = by (u.name == v.name) refl (found_once vs k v (once_behind u vs once) is)
  where
    by : (b : Bool) → (u.name == v.name) ≡ b → find (is_var v.name) vs ≡ Some v → cond b (Some u) (find (is_var v.name) vs) ≡ Some v
    by true e rest = absurd (not_among u vs once (any_at (is_var u.name) vs k v is (eq-eqb v.name u.name (sym (eqb-true u.name v.name e)))))
    by false e rest = rest

-- and the one of a name passes what one of this name does
pub any_found : (vs : List PlainVar) (x : ℕ) (test : PlainVar → Bool) → each_once vs ≡ true → list_any (λ v. v.name == x && test v) vs ≡ true → (v : PlainVar) × (find (is_var x) vs ≡ Some v) × (test v ≡ true)
any_found [] x test once h = absurd (true≢false (sym h))
any_found (v ∷ vs) x test once h = by (v.name == x) refl (test v) refl h (any_found vs x test (once_behind v vs once))
  where
    others : PlainVar → Bool
    others = λ u. u.name == x && test u

    by : (b : Bool) → (v.name == x) ≡ b → (c : Bool) → test v ≡ c → ((b && c) || list_any (λ u. u.name == x && test u) vs) ≡ true
        → (list_any (λ u. u.name == x && test u) vs ≡ true → (u : PlainVar) × (find (is_var x) vs ≡ Some u) × (test u ≡ true)) → (u : PlainVar) × (cond b (Some v) (find (is_var x) vs) ≡ Some u) × (test u ≡ true)
    by true e true f h rest = (v, refl, f)
    by true e false f h rest = absurd (not_among v vs once (subst (λ y. list_any (is_var y) vs ≡ true) (sym (eqb-true v.name x e)) (any_named x test vs h)))
    by false e c f h rest = rest h

-- What a block begins with

-- a parameter is read with its own type
reads_param : (t u : PlainTy) → (same_ty t u || is_inside t u) ≡ true → cond (is_inside t u) (inside t) t ≡ u
reads_param t u h = by (is_inside t u) refl h
  where
    held : (t : PlainTy) → is_inside t u ≡ true → inside t ≡ u
    held (TOptional w) e = same-true w u e
    held _ e = absurd (true≢false (sym e))

    left : (a : Bool) → (a || false) ≡ true → a ≡ true
    left true e = refl
    left false e = e

    by : (b : Bool) → is_inside t u ≡ b → (same_ty t u || b) ≡ true → cond b (inside t) t ≡ u
    by true e h = held t e
    by false e h = same-true t u (left (same_ty t u) h)

-- each of these parameters has a value that fits
abbrev pub Kept : List PlainTable → List Var → List PlainVar → Type 0
Kept tables vars params = (k : ℕ) (p : PlainVar) → slice_get params k ≡ Some p → IsKept tables vars p

shape_at : (v : PlainVar) (o : Option PlainVar) → shape (local_at v o) ≡ (v.name, v.ty)
shape_at v None = refl
shape_at v (Some p) = refl

module _ (variables params : List PlainVar) (once : each_once variables ≡ true) where
  abbrev begins : PlainVar → PlainLocal
  begins v = local_at v (find (is_var v.name) params)

  begun_typed : (vs : List PlainVar) (x : ℕ) → type_in (shapes (over begins vs)) x ≡ option_map (λ (v : PlainVar). v.ty) (find (is_var x) vs)
  begun_typed [] x = refl
  begun_typed (v ∷ vs) x = ap (λ (s : Shape). cond (s.0 == x) (Some s.1) (type_in (shapes (over begins vs)) x)) (shape_at v (find (is_var v.name) params)) ∙ by (v.name == x) (begun_typed vs x)
    where
      by : (b : Bool) → type_in (shapes (over begins vs)) x ≡ option_map (λ (v : PlainVar). v.ty) (find (is_var x) vs) → cond b (Some v.ty) (type_in (shapes (over begins vs)) x) ≡ option_map (λ (v : PlainVar). v.ty) (cond b (Some v) (find (is_var x) vs))
      by true e = refl
      by false e = e

  begun_within : (vs : List PlainVar) → ((k : ℕ) (v : PlainVar) → slice_get vs k ≡ Some v → find (is_var v.name) variables ≡ Some v) → Within (shapes (over begins vs)) (shapes (over begins variables))
  begun_within [] h = all_in
  begun_within (v ∷ vs) h =
      subst (λ (s : Shape). Within (s ∷ shapes (over begins vs)) (shapes (over begins variables))) (sym (shape_at v (find (is_var v.name) params)))
      (one_in (begun_typed variables v.name ∙ ap (option_map (λ (u : PlainVar). u.ty)) (h 0 v refl)) (begun_within vs (λ k u is. h (suc k) u is)))

  pub start_sound : Sound (shapes (at_start variables params))
  unfolding at_start
  start_sound = begun_within variables (λ k v is. found_once variables k v once is)

  module _ (tables : List PlainTable) (vars : List Var) (are : list_all (is_param_of variables) params ≡ true) (kept : Kept tables vars params) where
    begins_fit : (k : ℕ) (v : PlainVar) → slice_get variables k ≡ Some v → (begins v).assigned ≡ true → ValueFits tables vars (begins v)
    begins_fit k v is a = by (find (is_var v.name) params) refl a
      where
        param : (p : PlainVar) → find (is_var v.name) params ≡ Some p → ValueFits tables vars (local_at v (Some p))
        param p e =
            let named : p.name ≡ v.name = eqb-true p.name v.name (found_passes (is_var v.name) params p e) in
            let at : (j : ℕ) × (position (is_var v.name) params ≡ Some j) × (slice_get params j ≡ Some p) = found_at (is_var v.name) params p e in
            let one : (u : PlainVar) × (find (is_var p.name) variables ≡ Some u) × ((same_ty u.ty p.ty || is_inside u.ty p.ty) ≡ true) =
            any_found variables p.name (λ u. same_ty u.ty p.ty || is_inside u.ty p.ty) once (each_passes (is_param_of variables) params at.0 p are at.2) in
            let same : one.0 ≡ v = same_Some _ _ (sym one.1 ∙ ap (λ x. find (is_var x) variables) named ∙ found_once variables k v once is) in
            let typed : (same_ty v.ty p.ty || is_inside v.ty p.ty) ≡ true = subst (λ (u : PlainVar). (same_ty u.ty p.ty || is_inside u.ty p.ty) ≡ true) same one.2 in
            let value : IsKept tables vars p = kept at.0 p at.2 in
            record { value = value.value; has_value = subst (λ x. HasValue vars x value.value) named value.has; fits = fits_same tables p.ty _ value.value (sym (reads_param v.ty p.ty typed)) value.fits }

        by : (o : Option PlainVar) → find (is_var v.name) params ≡ o → (local_at v o).assigned ≡ true → ValueFits tables vars (local_at v o)
        by None e a = absurd (true≢false (sym a))
        by (Some p) e a = param p e

    all_begin : (vs : List PlainVar) → ((k : ℕ) (v : PlainVar) → slice_get vs k ≡ Some v → (begins v).assigned ≡ true → ValueFits tables vars (begins v)) → VarsFit tables vars (over begins vs)
    all_begin [] h = no_local
    all_begin (v ∷ vs) h = one_local (h 0 v refl) (all_begin vs (λ k u is. h (suc k) u is))

    pub start_fits : VarsFit tables vars (at_start variables params)
    unfolding at_start
    start_fits = all_begin variables begins_fit

-- Points

-- these parameters are supplied
abbrev pub Supplied : List PlainVar → Asked
Supplied params locals = supplied locals params ≡ true

-- a parameter that is supplied has a value that fits
pub one_kept : (tables : List PlainTable) (vars : List Var) (locals : List PlainLocal) (p : PlainVar) → VarsFit tables vars locals → is_supplied (local_of locals p.name) p.ty ≡ true → IsKept tables vars p
one_kept tables vars locals p fit h = by (local_of locals p.name) refl h
  where
    by : (o : Option PlainLocal) → local_of locals p.name ≡ o → is_supplied o p.ty ≡ true → IsKept tables vars p
    by None e h = absurd (true≢false (sym h))
    by (Some l) e h =
        let b : (l.assigned ≡ true) × (assignable (read_ty l) p.ty ≡ true) = both_true l.assigned (assignable (read_ty l) p.ty) h in
        let c : (l.name ≡ p.name) × (l.assigned ≡ true → ValueFits tables vars l) = local_fits tables vars locals p.name l fit e in
        let v : ValueFits tables vars l = c.1 b.0 in
        record { value = v.value; has = subst (λ x. HasValue vars x v.value) c.0 v.has_value; fits = fits_wider tables (read_ty l) p.ty v.value b.1 v.fits }

-- and so has each of those that are
pub supplied_kept : (tables : List PlainTable) (vars : List Var) (locals : List PlainLocal) (params : List PlainVar) → VarsFit tables vars locals → supplied locals params ≡ true → Kept tables vars params
supplied_kept tables vars locals params fit h k p is = one_kept tables vars locals p fit (each_passes (λ (q : PlainVar). is_supplied (local_of locals q.name) q.ty) params k p h is)

pub kept_both : (tables : List PlainTable) (vars : List Var) (ps qs : List PlainVar) → Kept tables vars ps → Kept tables vars qs → Kept tables vars (ps ++ qs)
kept_both tables vars [] qs h g k p is = g k p is
kept_both tables vars (q ∷ ps) qs h g zero p is = h 0 p is
kept_both tables vars (q ∷ ps) qs h g (suc k) p is = kept_both tables vars ps qs (λ k p is. h (suc k) p is) g k p is

pub filter_passes : {A : Type 0} (p : A → Bool) (xs : List A) (j : ℕ) (a : A) → slice_get (filter p xs) j ≡ Some a → p a ≡ true
filter_passes p [] j a is = absurd (none-some a is)
filter_passes p (x ∷ xs) j a is = by (p x) refl j is (λ j. filter_passes p xs j a)
  where
    by : (b : Bool) → p x ≡ b → (j : ℕ) → slice_get (cond b (x ∷ filter p xs) (filter p xs)) j ≡ Some a → ((j : ℕ) → slice_get (filter p xs) j ≡ Some a → p a ≡ true) → p a ≡ true
    by true e zero is rest = subst (λ y. p y ≡ true) (same_Some _ _ is) e
    by true e (suc j) is rest = rest j is
    by false e j is rest = rest j is

-- what is known of other names stays where a local gets a value
pub other_local : (x y : ℕ) (ty : PlainTy) (locals : List PlainLocal) → (y == x) ≡ false → is_some (local_of locals x) ≡ true → local_of (with_local x ty ty locals) y ≡ local_of locals y
unfolding with_local local_of
other_local x y ty locals other there = ap (λ b. local_of (cond b (over (given_if x ty) locals) (locals ++ new_local x ty ty ∷ [])) y) there ∙ still locals
  where
    still : (locals : List PlainLocal) → local_of (over (given_if x ty) locals) y ≡ local_of locals y
    still [] = refl
    still (l ∷ locals) = by (l.name == x) refl (l.name == y) refl (still locals)
      where
        by : (b : Bool) → (l.name == x) ≡ b → (c : Bool) → (l.name == y) ≡ c → local_of (over (given_if x ty) locals) y ≡ local_of locals y
            → cond ((cond b (given ty l) l).name == y) (Some (cond b (given ty l) l)) (local_of (over (given_if x ty) locals) y) ≡ cond (l.name == y) (Some l) (local_of locals y)
        by true e true f rest = absurd (true≢false (sym (eq-eqb y x (sym (eqb-true l.name y f) ∙ eqb-true l.name x e)) ∙ other))
        by true e false f rest = ap (λ c. cond c (Some (given ty l)) (local_of (over (given_if x ty) locals) y)) f ∙ rest ∙ sym (ap (λ c. cond c (Some l) (local_of locals y)) f)
        by false e c f rest = ap (cond (l.name == y) (Some l)) rest

each_typed : (ss : List Shape) (locals : List PlainLocal) (k : ℕ) (l : PlainLocal) → Within (shapes locals) ss → slice_get locals k ≡ Some l → type_in ss l.name ≡ Some l.ty
each_typed ss [] k l w is = absurd (none-some l is)
each_typed ss (m ∷ locals) zero l (one_in e w) is = subst (λ (n : PlainLocal). type_in ss n.name ≡ Some n.ty) (same_Some _ _ is) e
each_typed ss (m ∷ locals) (suc k) l (one_in e w) is = each_typed ss locals k l w is

pub sound_one_type : (locals : List PlainLocal) → Sound (shapes locals) → OneType locals
sound_one_type locals sound = record { each = λ k l is. type_found locals l.name ∙ each_typed (shapes locals) locals k l sound is }
