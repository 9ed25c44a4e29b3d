-- What values that fit a type are, and what fits besides.
use Rattle.std.proofs.Common.{◌≡◌, ℕ, ℤ, zero, suc, Bool, true, false, Some, None, List, [], ◌∷◌, ◌++◌, ◌⊎◌, inl, inr, refl, sym, ap, ◌∙◌, subst, true≢false, cond}
use Rattle.std.specs.Prelude.{slice_get, slice_set, ◌||◌}
use Rattle.std.proofs.lemmas.Option.{same_Some, none-some}
use Rattle.py_tree.specs.PlainTypes.{PlainTy, TInt, TBool, TStr, TNil, TList, TOptional, TEntity}
use Rattle.py_tree.specs.ClassRules.{PlainTable}
use Rattle.py_tree.specs.FlowEnvironment.{has_none}
use Rattle.py_tree.specs.ExpressionTypes.{same_ty, is_held, assignable, inside, with_none, join_none, join}
use Rattle.py_tree.proofs.TypeLaws.{same-true}
use Rattle.sf_value.specs.declared.value.Ref.{Ref}
use Rattle.sf_value.specs.declared.value.Value.{Value}
use Rattle.sf_value.specs.declared.value.Value.TheVariants as value
use Rattle.program_meaning.specs.Operations.{is_nil}
use Rattle.program_meaning.specs.Fits.{HasTable, Fits, int, bool, str, nil, list, none, some, entity, AllFit, empty, more, EachFits, no_value, one_more}

module _ (tables : List PlainTable) where
  pub as_int : (v : Value) → Fits tables TInt v → (z : ℤ) × (v ≡ value.Int z)
  as_int v (int z) = (z, refl)

  pub as_bool : (v : Value) → Fits tables TBool v → (b : Bool) × (v ≡ value.Bool b)
  as_bool v (bool b) = (b, refl)

  pub as_str : (v : Value) → Fits tables TStr v → (text : List ℕ) × (v ≡ value.Str text)
  as_str v (str text) = (text, refl)

  pub as_nil : (v : Value) → Fits tables TNil v → v ≡ value.Nil
  as_nil v nil = refl

  pub as_list : (t : PlainTy) (v : Value) → Fits tables (TList t) v → (vs : List Value) × (v ≡ value.List vs) × AllFit tables t vs
  as_list t v (list each) = (_, refl, each)

  pub as_optional : (t : PlainTy) (v : Value) → Fits tables (TOptional t) v → (v ≡ value.Nil) ⊎ Fits tables t v
  as_optional t v none = inl refl
  as_optional t v (some fit) = inr fit

  pub as_entity : (c : ℕ) (v : Value) → Fits tables (TEntity c) v → (at : Ref) × (t : PlainTable) × (v ≡ value.Entity at) × HasTable tables at.class t × (t.name ≡ c)
  as_entity c v (entity at has) = (at, _, refl, has, refl)

  -- a value that isn't None fits what an Optional holds
  pub fits_inside : (t : PlainTy) (v : Value) → Fits tables t v → is_nil v ≡ false → Fits tables (inside t) v
  fits_inside (TOptional t) v fit h = held (as_optional t v fit)
    where
      held : (v ≡ value.Nil) ⊎ Fits tables t v → Fits tables t v
      held (inl e) = absurd (true≢false (sym (ap is_nil e) ∙ h))
      held (inr f) = f
  fits_inside t v fit h = fit

  pub fits_around : (t : PlainTy) (v : Value) → Fits tables (inside t) v → Fits tables t v
  fits_around (TOptional t) v fit = some fit
  fits_around t v fit = fit

  pub fits_same : (s t : PlainTy) (v : Value) → s ≡ t → Fits tables s v → Fits tables t v
  fits_same s t v e fit = subst (λ u. Fits tables u v) e fit

  fits_held : (s u : PlainTy) (v : Value) (a b : Bool) → same_ty s u ≡ a → same_ty s TNil ≡ b → (a || b) ≡ true → Fits tables s v → Fits tables (TOptional u) v
  fits_held s u v true b e f h fit = some (fits_same s u v (same-true s u e) fit)
  fits_held s u v false true e f h fit = subst (λ w. Fits tables (TOptional u) w) (sym (as_nil v (fits_same s TNil v (same-true s TNil f) fit))) none
  fits_held s u v false false e f h fit = absurd (true≢false (sym h))

  pub fits_by_held : (s t : PlainTy) (v : Value) → is_held s t ≡ true → Fits tables s v → Fits tables t v
  fits_by_held s (TOptional u) v h fit = fits_held s u v (same_ty s u) (same_ty s TNil) refl refl h fit
  fits_by_held s _ v h fit = absurd (true≢false (sym h))

  by_either : (s t : PlainTy) (v : Value) (a b : Bool) → same_ty s t ≡ a → is_held s t ≡ b → (a || b) ≡ true → Fits tables s v → Fits tables t v
  by_either s t v true b e f h fit = fits_same s t v (same-true s t e) fit
  by_either s t v false true e f h fit = fits_by_held s t v f fit
  by_either s t v false false e f h fit = absurd (true≢false (sym h))

  -- a value stands where its type may be assigned
  pub fits_wider : (s t : PlainTy) (v : Value) → assignable s t ≡ true → Fits tables s v → Fits tables t v
  unfolding assignable
  fits_wider s t v h fit = by_either s t v (same_ty s t) (is_held s t) refl refl h fit

  with_none_left : (s t : PlainTy) (v : Value) → with_none s ≡ Some t → Fits tables s v → Fits tables t v
  with_none_left s t v h fit = by (has_none s) h
    where
      by : (b : Bool) → cond b None (Some (TOptional s)) ≡ Some t → Fits tables t v
      by true h = absurd (none-some _ h)
      by false h = subst (λ u. Fits tables u v) (same_Some _ _ h) (some fit)

  with_none_right : (s t : PlainTy) → with_none s ≡ Some t → Fits tables t value.Nil
  with_none_right s t h = by (has_none s) h
    where
      by : (b : Bool) → cond b None (Some (TOptional s)) ≡ Some t → Fits tables t value.Nil
      by true h = absurd (none-some _ h)
      by false h = subst (λ u. Fits tables u value.Nil) (same_Some _ _ h) none

  none_joined : (s t u : PlainTy) → join_none s t ≡ Some u → ((v : Value) → Fits tables s v → Fits tables u v) × ((v : Value) → Fits tables t v → Fits tables u v)
  none_joined TNil t u h = (λ v fit. subst (λ w. Fits tables u w) (sym (as_nil v fit)) (with_none_right t u h), λ v fit. with_none_left t u v h fit)
  none_joined s TNil u h = (λ v fit. with_none_left s u v h fit, λ v fit. subst (λ w. Fits tables u w) (sym (as_nil v fit)) (with_none_right s u h))
  none_joined s t u h = absurd (none-some u h)

  -- both parts of a join fit it
  by_ties : (s t u : PlainTy) (a b c : Bool) → same_ty s t ≡ a → is_held s t ≡ b → is_held t s ≡ c → cond a (Some s) (cond b (Some t) (cond c (Some s) (join_none s t))) ≡ Some u
      → ((v : Value) → Fits tables s v → Fits tables u v) × ((v : Value) → Fits tables t v → Fits tables u v)
  by_ties s t u true b c d e f h = (λ v fit. fits_same s u v (same_Some _ _ h) fit, λ v fit. fits_same s u v (same_Some _ _ h) (fits_same t s v (sym (same-true s t d)) fit))
  by_ties s t u false true c d e f h = (λ v fit. fits_same t u v (same_Some _ _ h) (fits_by_held s t v e fit), λ v fit. fits_same t u v (same_Some _ _ h) fit)
  by_ties s t u false false true d e f h = (λ v fit. fits_same s u v (same_Some _ _ h) fit, λ v fit. fits_same s u v (same_Some _ _ h) (fits_by_held t s v f fit))
  by_ties s t u false false false d e f h = none_joined s t u h

  pub fits_joined : (s t u : PlainTy) → join s t ≡ Some u → ((v : Value) → Fits tables s v → Fits tables u v) × ((v : Value) → Fits tables t v → Fits tables u v)
  unfolding join
  fits_joined s t u h = by_ties s t u (same_ty s t) (is_held s t) (is_held t s) refl refl refl h

  -- Lists of values

  pub fit_behind : (t : PlainTy) (vs ws : List Value) → AllFit tables t vs → AllFit tables t ws → AllFit tables t (vs ++ ws)
  fit_behind t [] ws empty k = k
  fit_behind t (v ∷ vs) ws (more f fs) k = more f (fit_behind t vs ws fs k)

  pub fit_at : (t : PlainTy) (vs : List Value) (k : ℕ) (v : Value) → AllFit tables t vs → slice_get vs k ≡ Some v → Fits tables t v
  fit_at t [] k v fit h = absurd (none-some v h)
  fit_at t (w ∷ vs) zero v (more f fs) h = subst (λ u. Fits tables t u) (same_Some _ _ h) f
  fit_at t (w ∷ vs) (suc k) v (more f fs) h = fit_at t vs k v fs h

  pub each_behind : (ts us : List PlainTy) (vs ws : List Value) → EachFits tables ts vs → EachFits tables us ws → EachFits tables (ts ++ us) (vs ++ ws)
  each_behind [] us [] ws no_value k = k
  each_behind [] us (v ∷ vs) ws x k = elim x [ ]
  each_behind (t ∷ ts) us [] ws x k = elim x [ ]
  each_behind (t ∷ ts) us (v ∷ vs) ws (one_more f fs) k = one_more f (each_behind ts us vs ws fs k)

  -- a value that stands at the place of a type
  pub each_at : (ts : List PlainTy) (vs : List Value) (k : ℕ) (t : PlainTy) → EachFits tables ts vs → slice_get ts k ≡ Some t → (v : Value) × (slice_get vs k ≡ Some v) × Fits tables t v
  each_at [] vs k t fit h = absurd (none-some t h)
  each_at (u ∷ ts) [] k t fit h = elim fit [ ]
  each_at (u ∷ ts) (v ∷ vs) zero t (one_more f fs) h = (v, refl, fits_same u t v (same_Some _ _ h) f)
  each_at (u ∷ ts) (v ∷ vs) (suc k) t (one_more f fs) h = each_at ts vs k t fs h

  -- a value in place of one
  pub each_set : (ts : List PlainTy) (vs : List Value) (k : ℕ) (t : PlainTy) (w : Value) → EachFits tables ts vs → slice_get ts k ≡ Some t → Fits tables t w → EachFits tables ts (slice_set vs k w)
  each_set [] vs k t w fit h g = absurd (none-some t h)
  each_set (u ∷ ts) [] k t w fit h g = elim fit [ ]
  each_set (u ∷ ts) (v ∷ vs) zero t w (one_more f fs) h g = one_more (fits_same t u w (sym (same_Some _ _ h)) g) fs
  each_set (u ∷ ts) (v ∷ vs) (suc k) t w (one_more f fs) h g = one_more f (each_set ts vs k t w fs h g)
