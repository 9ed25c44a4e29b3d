-- What is assignable, and the join of two types.
use Rattle.std.proofs.Common.{◌≡◌, Bool, true, false, Some, None, if◌then◌else◌, refl, sym, ◌∙◌, subst, true≢false}
use Rattle.std.specs.Prelude.{◌||◌}
use Rattle.std.proofs.lemmas.Option.{same_Some, none-some}
use Rattle.py_tree.specs.PlainTypes.{PlainTy, TNil, TOptional}
use Rattle.py_tree.specs.FlowEnvironment.{has_none}
use Rattle.py_tree.specs.ExpressionTypes.{same_ty, is_held, assignable, with_none, join_none, join}
use Rattle.py_tree.proofs.TypeLaws.{same-true, same-refl, join_none_is}

either_first : (a b : Bool) → a ≡ true → (a || b) ≡ true
either_first true b h = refl
either_first false b h = absurd (true≢false (sym h))

either_second : (a b : Bool) → b ≡ true → (a || b) ≡ true
either_second true b h = refl
either_second false b h = h

pub assigned_itself : (t : PlainTy) → assignable t t ≡ true
unfolding assignable
assigned_itself t = either_first (same_ty t t) (is_held t t) (same-refl t)

held_suits : (s t : PlainTy) → is_held s t ≡ true → assignable s t ≡ true
unfolding assignable
held_suits s t h = either_second (same_ty s t) (is_held s t) h

pub inside_suits : (u : PlainTy) → assignable u (TOptional u) ≡ true
inside_suits u = held_suits u (TOptional u) (either_first (same_ty u u) (same_ty u TNil) (same-refl u))

none_suits : (u : PlainTy) → assignable TNil (TOptional u) ≡ true
none_suits u = held_suits TNil (TOptional u) (either_second (same_ty TNil u) true refl)

with_none_is : (v u : PlainTy) → with_none v ≡ Some u → u ≡ TOptional v
with_none_is v u h = by (has_none v) h
  where
    by : (b : Bool) → (if b then None else Some (TOptional v)) ≡ Some u → u ≡ TOptional v
    by true e = absurd (none-some u e)
    by false e = sym (same_Some _ _ e)

abbrev Both : PlainTy → PlainTy → PlainTy → Type 0
Both s t u = (assignable s u ≡ true) × (assignable t u ≡ true)

join_none_suits : (s t u : PlainTy) → join_none s t ≡ Some u → Both s t u
join_none_suits s t u h = by (same_ty s TNil) refl (same_ty t TNil) refl (sym (join_none_is s t) ∙ h)
  where
    left : (s t : PlainTy) → s ≡ TNil → u ≡ TOptional t → Both s t u
    left s t e g = subst (Both s t) (sym g) (subst (λ s. assignable s (TOptional t) ≡ true) (sym e) (none_suits t), inside_suits t)

    right : (s t : PlainTy) → t ≡ TNil → u ≡ TOptional s → Both s t u
    right s t f g = subst (Both s t) (sym g) (inside_suits s, subst (λ t. assignable t (TOptional s) ≡ true) (sym f) (none_suits s))

    by : (b : Bool) → same_ty s TNil ≡ b → (c : Bool) → same_ty t TNil ≡ c → (if b then with_none t else (if c then with_none s else None)) ≡ Some u → Both s t u
    by true e c f g = left s t (same-true s TNil e) (with_none_is t u g)
    by false e true f g = right s t (same-true t TNil f) (with_none_is s u g)
    by false e false f g = absurd (none-some u g)

-- two types are assignable to their join
pub join_suits : (s t u : PlainTy) → join s t ≡ Some u → (assignable s u ≡ true) × (assignable t u ≡ true)
unfolding join
join_suits s t u h = by (same_ty s t) refl (is_held s t) refl (is_held t s) refl h
  where
    by : (b : Bool) → same_ty s t ≡ b → (c : Bool) → is_held s t ≡ c → (d : Bool) → is_held t s ≡ d → (if b then Some s else (if c then Some t else (if d then Some s else join_none s t))) ≡ Some u → Both s t u
    by true e c f d g h = subst (Both s t) (same_Some _ _ h) (assigned_itself s, subst (λ t. assignable t s ≡ true) (same-true s t e) (assigned_itself s))
    by false e true f d g h = subst (Both s t) (same_Some _ _ h) (held_suits s t f, assigned_itself t)
    by false e false f true g h = subst (Both s t) (same_Some _ _ h) (assigned_itself s, held_suits t s g)
    by false e false f false g h = join_none_suits s t u h
