-- Points of what is surely assigned name variables of the method, each once.
use Rattle.std.proofs.Common.{◌≡◌, ℕ, Bool, true, false, not, cond, Option, Some, None, List, [], ◌∷◌, ◌++◌, if◌then◌else◌, refl, sym, ap, ◌∙◌}
use Rattle.std.specs.Prelude.{◌==◌, ◌&&◌, ◌||◌, find, option_map}
use Rattle.std.specs.List.{list_any, list_all, cons_option}
use Rattle.std.specs.Cmp.Derive.{both_true as both_hold}
use Rattle.std.proofs.lemmas.Bool.{eq-eqb}
use Rattle.std.proofs.lemmas.Option.{same_Some, none-some}
use Rattle.py_tree.specs.PlainTypes.{PlainTy, TInt, TBool, TStr, TNil, TList, TOptional, TEntity}
use Rattle.py_tree.specs.FlowEnvironment.{PlainLocal, local_of, narrowed}
use Rattle.py_tree.specs.ExpressionTypes.{same_ty, inside, read_ty}
use Rattle.py_tree.proofs.TypeLaws.{same-refl}
use Rattle.block_code.specs.PlainVars.{PlainVar}
use Rattle.block_code.specs.GraphFits.{is_var, is_inside, is_param_of, each_once}
use Rattle.flat_tree.specs.PlainFlat.{PlainFlatStmt}
use Rattle.method_splitter.specs.Points.{PointsPass}
use Rattle.flat_types.specs.FlatTypes.{is_point}
use Rattle.hoisting.specs.Stages.{surely}
use Rattle.typed_hoisting.specs.KnownLocals.{Once}
use Rattle.typed_hoisting.specs.TypedHoisting.{AreTyped, CodePasses}
use Rattle.typed_hoisting.proofs.LocalLaws.{changed, narrow, narrow_name, narrow_ty, apart}

abbrev var_so : ℕ → PlainTy → PlainVar
var_so x t = record { name = x; ty = t }

abbrev type_of_local : PlainLocal → PlainTy
type_of_local l = l.ty

some_any : (p q : PlainVar → Bool) (vs : List PlainVar) (v : PlainVar) → find p vs ≡ Some v → q v ≡ true → list_any q vs ≡ true
some_any p q [] v h is = absurd (none-some v h)
some_any p q (u ∷ vs) v h is = by (p u) h (some_any p q vs v)
  where
    either : (a b : Bool) → b ≡ true → (a || b) ≡ true
    either true b e = refl
    either false b e = e

    by : (b : Bool) → cond b (Some u) (find p vs) ≡ Some v → (find p vs ≡ Some v → q v ≡ true → list_any q vs ≡ true) → (q u || list_any q vs) ≡ true
    by true h k = ap (λ b. b || list_any q vs) (ap q (same_Some _ _ h) ∙ is)
    by false h k = either (q u) (list_any q vs) (k h is)

same_first : (t : PlainTy) (b : Bool) → (same_ty t t || b) ≡ true
same_first t b = ap (λ a. a || b) (same-refl t)

read_is : (t : PlainTy) (n : Bool) → (same_ty t (cond n (inside t) t) || is_inside t (cond n (inside t) t)) ≡ true
read_is (TOptional u) true = by (same_ty (TOptional u) u) (same_ty u u) (same-refl u)
  where
    by : (a b : Bool) → b ≡ true → (a || b) ≡ true
    by true b e = refl
    by false b e = e
read_is (TList u) true = same_first (TList u) false
read_is (TEntity k) true = same_first (TEntity k) false
read_is TInt true = refl
read_is TBool true = refl
read_is TStr true = refl
read_is TNil true = refl
read_is t false = ap (λ b. b || is_inside t t) (same-refl t)

module _ (variables : List PlainVar) where
  names_variable : (x : ℕ) (t : PlainTy) (n : Bool) → find (is_var x) variables ≡ Some (var_so x t) → is_param_of variables (var_so x (cond n (inside t) t)) ≡ true
  names_variable x t n h = some_any (is_var x) (λ v. v.name == x && (same_ty v.ty (cond n (inside t) t) || is_inside v.ty (cond n (inside t) t))) variables (var_so x t) h (both_hold (eq-eqb x x refl) (read_is t n))

  none_sure : (ls : List PlainLocal) (x : ℕ) → local_of ls x ≡ None → list_any (is_var x) (surely ls) ≡ false
  unfolding local_of
  none_sure [] x h = refl
  none_sure (l ∷ ls) x h = by (l.name == x) refl l.assigned h (none_sure ls x)
    where
      here : PlainVar
      here = record { name = l.name; ty = read_ty l }

      by : (b : Bool) → (l.name == x) ≡ b → (a : Bool) → cond b (Some l) (local_of ls x) ≡ None → (local_of ls x ≡ None → list_any (is_var x) (surely ls) ≡ false) → list_any (is_var x) (cons_option (if a then Some here else None) (surely ls)) ≡ false
      by true e a h k = absurd (none-some l (sym h))
      by false e true h k = ap (λ b. b || list_any (is_var x) (surely ls)) e ∙ k h
      by false e false h k = k h

  each_passes : (ls : List PlainLocal) → Once ls → AreTyped variables ls → (list_all (is_param_of variables) (surely ls) ≡ true) × (each_once (surely ls) ≡ true)
  unfolding local_of
  each_passes [] once typed = (refl, refl)
  each_passes (l ∷ ls) once typed = by l.assigned (each_passes ls once.1 later)
    where
      here : PlainVar
      here = record { name = l.name; ty = read_ty l }

      later : AreTyped variables ls
      later x t h = typed x t (ap (λ b. option_map type_of_local (cond b (Some l) (local_of ls x))) (apart l.name x (λ e. none-some t (sym (ap (option_map type_of_local) once.0) ∙ ap (λ y. option_map type_of_local (local_of ls y)) e ∙ h))) ∙ h)

      found : find (is_var l.name) variables ≡ Some (var_so l.name l.ty)
      found = typed l.name l.ty (ap (λ b. option_map type_of_local (cond b (Some l) (local_of ls l.name))) (eq-eqb l.name l.name refl))

      by : (a : Bool) → (list_all (is_param_of variables) (surely ls) ≡ true) × (each_once (surely ls) ≡ true)
          → (list_all (is_param_of variables) (cons_option (if a then Some here else None) (surely ls)) ≡ true) × (each_once (cons_option (if a then Some here else None) (surely ls)) ≡ true)
      by true p = (both_hold (names_variable l.name l.ty l.not_none found) p.0, both_hold (ap not (none_sure ls l.name once.0)) p.1)
      by false p = p

  pub point_passes : (ls : List PlainLocal) → Once ls → AreTyped variables ls → is_point variables (surely ls) ≡ true
  point_passes ls once typed = let p = each_passes ls once typed in both_hold p.0 p.1

  pub typed_narrowed : (names : List ℕ) (ls : List PlainLocal) → AreTyped variables ls → AreTyped variables (narrowed names ls)
  unfolding narrowed
  typed_narrowed names ls typed x t h = typed x t (sym (ap (option_map type_of_local) (changed (narrow names) (narrow_name names) ls x) ∙ by (local_of ls x)) ∙ h)
    where
      by : (o : Option PlainLocal) → option_map type_of_local (option_map (narrow names) o) ≡ option_map type_of_local o
      by None = refl
      by (Some l) = ap Some (narrow_ty names l)

  -- one list of code after another
  pub passes_both : (xs ys : List PlainFlatStmt) → CodePasses variables xs → CodePasses variables ys → CodePasses variables (xs ++ ys)
  unfolding PointsPass
  passes_both [] ys h g = g
  passes_both (x ∷ xs) ys h g = (h.0, passes_both xs ys h.1 g)
