-- The values of locals under what is known of them.
use Rattle.std.proofs.Common.{◌≡◌, ℕ, suc, Bool, true, false, cond, Option, Some, None, Ok, List, [], ◌∷◌, refl, sym, ap, ◌∙◌, subst, true≢false}
use Rattle.std.specs.Prelude.{find, position, slice_get, option_map, ◌==◌, not}
use Rattle.std.proofs.lemmas.Option.{same_Some, none-some}
use Rattle.std.proofs.lemmas.Bool.{eqb-true, eq-eqb}
use Rattle.py_tree.specs.declared.names.Place.{Place}
use Rattle.py_tree.specs.declared.rule.Rule.TheVariants.{UnknownName, Unassigned}
use Rattle.py_tree.specs.PlainTypes.{PlainTy}
use Rattle.py_tree.specs.ClassRules.{PlainTable}
use Rattle.py_tree.specs.FlowEnvironment.{PlainLocal, has_name, local_of, narrowed, known_not_none}
use Rattle.py_tree.specs.ExpressionTypes.{refuse_if, inside, read_ty, type_of_name}
use Rattle.sf_value.specs.declared.value.Value.{Value}
use Rattle.program_meaning.specs.declared.vars.Var.{Var}
use Rattle.program_meaning.specs.World.{is_named, value_of_var, var_at, local_value, placed, assigned}
use Rattle.program_meaning.specs.Operations.{is_nil}
use Rattle.program_meaning.specs.Fits.{Fits}
use Rattle.program_meaning.specs.PointFits.{HasValue, ValueFits, VarsFit, no_local, one_local}
use Rattle.program_meaning.proofs.FitsLaws.{fits_inside}
use Rattle.program_meaning.proofs.TypedParts.{done, same_ok, needs_ok, passes_ok}
use Rattle.program_meaning.proofs.Places.{position_of_more, found_at}
use Rattle.program_meaning.proofs.ShownLaws.{NotNone}

-- the variable that has a value
var_found : (vars : List Var) (x : ℕ) (v : Value) (o : Option Var) → find (is_named x) vars ≡ o → option_map (λ (a : Var). a.value) o ≡ Some v → local_value vars x ≡ v
unfolding local_value
var_found vars x v None e h = absurd (none-some v h)
var_found vars x v (Some a) e h =
    let k : (k : ℕ) × (position (is_named x) vars ≡ Some k) × (slice_get vars k ≡ Some a) = found_at (is_named x) vars a e in
    ap (var_at vars) k.1 ∙ ap value_of_var k.2 ∙ same_Some _ _ h

pub value_is : (vars : List Var) (x : ℕ) (v : Value) → HasValue vars x v → local_value vars x ≡ v
value_is vars x v h = var_found vars x v (find (is_named x) vars) refl h.found

-- Assignments

abbrev new_var : ℕ → Value → Var
new_var x v = record { name = record { 0 = x }; value = v }

placed_more : (a : Var) (vars : List Var) (o : Option ℕ) (v : Var) → placed (a ∷ vars) (option_map suc o) v ≡ a ∷ placed vars o v
placed_more a vars None v = refl
placed_more a vars (Some i) v = refl

assigned_more : (a : Var) (vars : List Var) (x : ℕ) (v : Value) → assigned (a ∷ vars) x v ≡ cond (is_named x a) (new_var x v ∷ vars) (a ∷ assigned vars x v)
unfolding assigned
assigned_more a vars x v = ap (λ o. placed (a ∷ vars) o (new_var x v)) (position_of_more (is_named x) a vars) ∙ by (is_named x a)
  where
    by : (b : Bool) → placed (a ∷ vars) (cond b (Some 0) (option_map suc (position (is_named x) vars))) (new_var x v) ≡ cond b (new_var x v ∷ vars) (a ∷ placed vars (position (is_named x) vars) (new_var x v))
    by true = refl
    by false = placed_more a vars (position (is_named x) vars) (new_var x v)

abbrev pub value_found : ℕ → List Var → Option Value
value_found y vars = option_map (λ (a : Var). a.value) (find (is_named y) vars)

abbrev here : ℕ → Var → List Var → Option Value
here y a vars = option_map (λ (b : Var). b.value) (cond (is_named y a) (Some a) (find (is_named y) vars))

found_in_more : (y : ℕ) (a : Var) (vars : List Var) (b : Bool) → is_named y a ≡ b → value_found y (a ∷ vars) ≡ cond b (Some a.value) (value_found y vars)
found_in_more y a vars true e = ap (λ b. option_map (λ (c : Var). c.value) (cond b (Some a) (find (is_named y) vars))) e
found_in_more y a vars false e = ap (λ b. option_map (λ (c : Var). c.value) (cond b (Some a) (find (is_named y) vars))) e

pub assigned_found : (vars : List Var) (x : ℕ) (v : Value) (y : ℕ) → value_found y (assigned vars x v) ≡ cond (x == y) (Some v) (value_found y vars)
unfolding assigned
assigned_found [] x v y = by (x == y)
  where
    by : (b : Bool) → option_map (λ (a : Var). a.value) (cond b (Some (new_var x v)) None) ≡ cond b (Some v) None
    by true = refl
    by false = refl
assigned_found (a ∷ vars) x v y = ap (value_found y) (assigned_more a vars x v) ∙ by (is_named x a) refl (is_named y a) refl (x == y) refl (assigned_found vars x v y)
  where
    by : (b : Bool) → is_named x a ≡ b → (c : Bool) → is_named y a ≡ c → (d : Bool) → (x == y) ≡ d → value_found y (assigned vars x v) ≡ cond (x == y) (Some v) (value_found y vars)
        → value_found y (cond b (new_var x v ∷ vars) (a ∷ assigned vars x v)) ≡ cond (x == y) (Some v) (value_found y (a ∷ vars))
    by true e c f true g rest = found_in_more y (new_var x v) vars true g ∙ sym (ap (λ d. cond d (Some v) (value_found y (a ∷ vars))) g)
    by true e true f false g rest = absurd (true≢false (sym (eq-eqb x y (sym (eqb-true a.name.0 x e) ∙ eqb-true a.name.0 y f)) ∙ g))
    by true e false f false g rest = found_in_more y (new_var x v) vars false g ∙ sym (ap (λ d. cond d (Some v) (value_found y (a ∷ vars))) g ∙ found_in_more y a vars false f)
    by false e true f true g rest = absurd (true≢false (sym (eq-eqb a.name.0 x (eqb-true a.name.0 y f ∙ sym (eqb-true x y g))) ∙ e))
    by false e true f false g rest = found_in_more y a (assigned vars x v) true f ∙ sym (ap (λ d. cond d (Some v) (value_found y (a ∷ vars))) g ∙ found_in_more y a vars true f)
    by false e false f d g rest = found_in_more y a (assigned vars x v) false f ∙ rest ∙ ap (cond (x == y) (Some v)) (sym (found_in_more y a vars false f))

pub has_new : (vars : List Var) (x : ℕ) (v : Value) → HasValue (assigned vars x v) x v
has_new vars x v = record { found = assigned_found vars x v x ∙ ap (λ b. cond b (Some v) (value_found x vars)) (eq-eqb x x refl) }

pub keeps_other : (vars : List Var) (x : ℕ) (v : Value) (y : ℕ) (u : Value) → (x == y) ≡ false → HasValue vars y u → HasValue (assigned vars x v) y u
keeps_other vars x v y u other h = record { found = assigned_found vars x v y ∙ ap (λ b. cond b (Some v) (value_found y vars)) other ∙ h.found }

module _ (tables : List PlainTable) where
  -- what is known of a local that is found
  pub local_fits : (vars : List Var) (locals : List PlainLocal) (x : ℕ) (l : PlainLocal) → VarsFit tables vars locals → local_of locals x ≡ Some l → (l.name ≡ x) × (l.assigned ≡ true → ValueFits tables vars l)
  unfolding local_of
  local_fits vars [] x l fit h = absurd (none-some l h)
  local_fits vars (m ∷ locals) x l (one_local f fs) h = by (m.name == x) refl h (local_fits vars locals x l fs)
    where
      by : (b : Bool) → (m.name == x) ≡ b → cond b (Some m) (local_of locals x) ≡ Some l → (local_of locals x ≡ Some l → (l.name ≡ x) × (l.assigned ≡ true → ValueFits tables vars l)) → (l.name ≡ x) × (l.assigned ≡ true → ValueFits tables vars l)
      by true e h rest = subst (λ k. (k.name ≡ x) × (k.assigned ≡ true → ValueFits tables vars k)) (same_Some _ _ h) (eqb-true m.name x e, f)
      by false e h rest = rest h

  narrowed_value : (vars : List Var) (names : List ℕ) (l : PlainLocal) → NotNone vars names → has_name names l.name ≡ true → ValueFits tables vars l → ValueFits tables vars (known_not_none l)
  narrowed_value vars names l not_none h f = record { value = f.value; has_value = f.has_value; fits = by l.not_none f.fits }
    where
      by : (b : Bool) → Fits tables (cond b (inside l.ty) l.ty) f.value → Fits tables (inside l.ty) f.value
      by true g = g
      by false g = fits_inside tables l.ty f.value g (ap is_nil (sym (value_is vars l.name f.value f.has_value)) ∙ not_none.not_none l.name h)

  pub narrowed_fits : (vars : List Var) (names : List ℕ) (locals : List PlainLocal) → NotNone vars names → VarsFit tables vars locals → VarsFit tables vars (narrowed names locals)
  unfolding narrowed
  narrowed_fits vars names [] not_none fit = no_local
  narrowed_fits vars names (l ∷ locals) not_none (one_local f fs) = one_local (by (has_name names l.name) refl) (narrowed_fits vars names locals not_none fs)
    where
      by : (b : Bool) → has_name names l.name ≡ b → (cond b (known_not_none l) l).assigned ≡ true → ValueFits tables vars (cond b (known_not_none l) l)
      by true e a = narrowed_value vars names l not_none e (f a)
      by false e a = f a

  pub name_fits : (vars : List Var) (locals : List PlainLocal) (at : Place) (x : ℕ) (ty : PlainTy) → VarsFit tables vars locals → type_of_name locals at x ≡ Ok ty → Fits tables ty (local_value vars x)
  unfolding type_of_name
  name_fits vars locals at x ty fit h =
      let a : (l : PlainLocal) × (local_of locals x ≡ Some l) × (refuse_if (not l.assigned) Unassigned at (Ok (read_ty l)) ≡ Ok ty) = needs_ok (local_of locals x) UnknownName at (λ l. refuse_if (not l.assigned) Unassigned at (Ok (read_ty l))) ty h in
      let b : (a.0.assigned ≡ true) × (done (read_ty a.0) ≡ Ok ty) = passes_ok a.0.assigned Unassigned at (Ok (read_ty a.0)) ty a.2 in
      let c : (a.0.name ≡ x) × (a.0.assigned ≡ true → ValueFits tables vars a.0) = local_fits vars locals x a.0 fit a.1 in
      let v : ValueFits tables vars a.0 = c.1 b.0 in
      let same : v.value ≡ local_value vars x = sym (value_is vars a.0.name v.value v.has_value) ∙ ap (local_value vars) c.0 in
      subst (λ u. Fits tables ty u) same (subst (λ t. Fits tables t v.value) (same_ok (read_ty a.0) ty b.1) v.fits)
