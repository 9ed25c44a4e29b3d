-- An expression may be None or not, whatever type is wanted where it stands.
use Rattle.std.proofs.Common.{◌≡◌, ℕ, Bool, true, false, cond, Option, Some, None, Ok, List, [], ◌∷◌, ◌++◌, map as over, refl, sym, ap, ◌∙◌, true≢false}
use Rattle.std.specs.Prelude.{◌||◌, ◌==◌, not, is_some, option_and_then}
use Rattle.std.proofs.lemmas.Option.{same_Some, none-some}
use Rattle.py_tree.specs.declared.names.Place.{Place}
use Rattle.py_tree.specs.declared.rule.Rule.TheVariants.{Mismatch}
use Rattle.py_tree.specs.PlainTypes.{PlainTy, TNil, TList, TOptional}
use Rattle.py_tree.specs.PlainExpressions.{PlainExpr, PList, PCond, PlainExprs, PNoExpr, PExpr}
use Rattle.py_tree.specs.ClassRules.{PlainTable}
use Rattle.py_tree.specs.FlowEnvironment.{PlainLocal, PlainEnv, local_of, has_none, where_test}
use Rattle.py_tree.specs.ExpressionTypes.{same_ty, assignable, is_held, with_none, join_none, join, element_wanted, fits, place_of, type_of, list_of, elements}
use Rattle.py_tree.specs.Flow.{Context, env_of, type_at, given, with_local}
use Rattle.py_tree.proofs.TypeLaws.{same-true, join_none_is}
use Rattle.program_meaning.proofs.TypedParts.{same_ok, found_ok, passes_ok, elements_result, typed_cond}

-- Two parts that take turns may be None where one of them may

or_twice : (b : Bool) → (b || b) ≡ b
or_twice true = refl
or_twice false = refl

by_first : (a b : Bool) → a ≡ true → (a || b) ≡ true
by_first true b h = refl
by_first false b h = absurd (true≢false (sym h))

by_second : (a b : Bool) → b ≡ true → (a || b) ≡ true
by_second true b h = refl
by_second false b h = h

abbrev EitherHas : (s t u : PlainTy) → Type 0
EitherHas s t u = has_none u ≡ (has_none s || has_none t)

first_has : (s t u : PlainTy) → has_none s ≡ true → has_none u ≡ true → EitherHas s t u
first_has s t u h k = k ∙ sym (by_first (has_none s) (has_none t) h)

second_has : (s t u : PlainTy) → has_none t ≡ true → has_none u ≡ true → EitherHas s t u
second_has s t u h k = k ∙ sym (by_second (has_none s) (has_none t) h)

in_optional : (s t : PlainTy) → is_held s t ≡ true → has_none t ≡ true
in_optional s (TOptional v) h = refl
in_optional s _ h = absurd (true≢false (sym h))

added_none : (t u : PlainTy) → with_none t ≡ Some u → has_none u ≡ true
added_none t u h = by (has_none t) h
  where
    by : (b : Bool) → cond b None (Some (TOptional t)) ≡ Some u → has_none u ≡ true
    by true e = absurd (none-some u e)
    by false e = ap has_none (sym (same_Some _ _ e))

with_none_joined : (s t u : PlainTy) → join_none s t ≡ Some u → EitherHas s t u
with_none_joined s t u h = by (same_ty s TNil) refl (same_ty t TNil) refl (sym (join_none_is s t) ∙ h)
  where
    by : (b : Bool) → same_ty s TNil ≡ b → (c : Bool) → same_ty t TNil ≡ c → cond b (with_none t) (cond c (with_none s) None) ≡ Some u → EitherHas s t u
    by true e c f g = first_has s t u (ap has_none (same-true s TNil e)) (added_none t u g)
    by false e true f g = second_has s t u (ap has_none (same-true t TNil f)) (added_none s u g)
    by false e false f g = absurd (none-some u g)

either_has : (s t u : PlainTy) → join s t ≡ Some u → EitherHas s t u
unfolding join
either_has s t u h = by (same_ty s t) refl (is_held s t) refl (is_held t s) refl h
  where
    by : (b : Bool) → same_ty s t ≡ b → (c : Bool) → is_held s t ≡ c → (d : Bool) → is_held t s ≡ d → cond b (Some s) (cond c (Some t) (cond d (Some s) (join_none s t))) ≡ Some u → EitherHas s t u
    by true e c f d g k = ap has_none (sym (same_Some _ _ k)) ∙ sym (or_twice (has_none s)) ∙ ap (λ v. has_none s || has_none v) (same-true s t e)
    by false e true f d g k = second_has s t u (in_optional s t f) (ap has_none (sym (same_Some _ _ k)) ∙ in_optional s t f)
    by false e false f true g k = first_has s t u (in_optional t s g) (ap has_none (sym (same_Some _ _ k)) ∙ in_optional t s g)
    by false e false f false g k = with_none_joined s t u k

-- All expressions

module _ (tables : List PlainTable) where
  no_list_is_none : (env : PlainEnv) (wanted : Option PlainTy) (at : Place) (xs : PlainExprs) (t : PlainTy) → list_of tables env wanted at xs ≡ Ok t → has_none t ≡ false
  unfolding type_of
  no_list_is_none env None at PNoExpr t h = absurd cc
  no_list_is_none env (Some element) at PNoExpr t h = ap has_none (sym (same_ok (TList element) t h))
  no_list_is_none env None at (PExpr x xs) t h =
      let a : (s : PlainTy) × (type_of tables env None x ≡ Ok s) × (elements tables env s xs ≡ Ok t) = found_ok (type_of tables env None x) (λ s. elements tables env s xs) t h in
      ap has_none (sym (elements_result tables env a.0 xs t a.2))
  no_list_is_none env (Some element) at (PExpr x xs) t h =
      let a : (s : PlainTy) × (type_of tables env (Some element) x ≡ Ok s) × (fits s element (place_of x) (elements tables env element xs) ≡ Ok t) = found_ok (type_of tables env (Some element) x) (λ s. fits s element (place_of x) (elements tables env element xs)) t h in
      ap has_none (sym (elements_result tables env element xs t (passes_ok (assignable a.0 element) Mismatch (place_of x) (elements tables env element xs) t a.2).1))

  pub none_alike : (e : PlainExpr) (env : PlainEnv) (wanted other : Option PlainTy) (s t : PlainTy) → type_of tables env wanted e ≡ Ok s → type_of tables env other e ≡ Ok t → has_none s ≡ has_none t
  unfolding type_of
  none_alike (PList at items) env wanted other s t h k = no_list_is_none env (option_and_then element_wanted wanted) at items s h ∙ sym (no_list_is_none env (option_and_then element_wanted other) at items t k)
  none_alike (PCond at test a b) env wanted other s t h k =
      let p = typed_cond tables env wanted at s test a b h in
      let q = typed_cond tables env other at t test a b k in
      either_has p.0 p.1 s p.5 ∙ (λ i. none_alike a (where_test true test env) wanted other p.0 q.0 p.3 q.3 i || none_alike b (where_test false test env) wanted other p.1 q.1 p.4 q.4 i) ∙ sym (either_has q.0 q.1 t q.5)
  none_alike _ env wanted other s t h k = ap has_none (same_ok s t (sym h ∙ k))

-- so what is known of a variable behind an assignment is the same
pub known_alike : (c : Context) (locals : List PlainLocal) (x : ℕ) (e : PlainExpr) (wanted other : Option PlainTy) (s t : PlainTy) → is_some (local_of locals x) ≡ true → type_at c locals wanted e ≡ Ok s → type_at c locals other e ≡ Ok t
    → with_local x s s locals ≡ with_local x t t locals
unfolding with_local
known_alike c locals x e wanted other s t is h k = there s ∙ (λ i. over (λ l. cond (l.name == x) (record l { assigned = true; not_none = not (none_alike c.tables e (env_of c locals) wanted other s t h k i) }) l) locals) ∙ sym (there t)
  where
    there : (ty : PlainTy) → with_local x ty ty locals ≡ over (λ l. cond (l.name == x) (given ty l) l) locals
    there ty = ap (λ b. cond b (over (λ l. cond (l.name == x) (given ty l) l) locals) (locals ++ given ty (record { name = x; ty = ty; assigned = true; not_none = false }) ∷ [])) is
