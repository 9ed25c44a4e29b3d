-- Rules at two points: where they find something at the first they find something at the second, that is related to it.
use Rattle.std.proofs.Common.{◌≡◌, Bool, true, false, Option, Some, None, Result, Ok, Err, refl, subst}
use Rattle.py_tree.specs.declared.names.Place.{Place}
use Rattle.py_tree.specs.declared.rule.RuleFault.{RuleFault}
use Rattle.py_tree.specs.declared.rule.Rule.{Rule}
use Rattle.py_tree.specs.ExpressionTypes.{needs, refuse_if, with_found}
use Rattle.py_tree.specs.Flow.{needs_none}
use Rattle.program_meaning.proofs.TypedParts.{same_ok, err_ok}

pub data Carries {A : Type 0} (R : A → A → Type 0) : Result A RuleFault → Result A RuleFault → Type 0 where
  refused : {fault : RuleFault} {q : Result A RuleFault} → Carries R (Err fault) q
  carried : {x y : A} → R x y → Carries R (Ok x) (Ok y)

pub record Found {A : Type 0} (R : A → A → Type 0) (x : A) (q : Result A RuleFault) : Type 0 where
  pub found : A
  pub is : q ≡ Ok found
  pub related : R x found

pub goes : {A : Type 0} {R : A → A → Type 0} {r q : Result A RuleFault} → Carries R r q → (x : A) → r ≡ Ok x → Found R x q
goes (refused {fault = fault}) x e = absurd (err_ok fault x e)
goes {R = R} (carried {x = z} {y = y} so) x e = record { found = y; is = refl; related = subst (λ z. R z y) (same_ok z x e) so }

module _ {X A : Type 0} (R : X → X → Type 0) (S : A → A → Type 0) where
  pub carry : {r q : Result X RuleFault} (f g : X → Result A RuleFault) → Carries R r q → ((x y : X) → r ≡ Ok x → q ≡ Ok y → R x y → Carries S (f x) (g y)) → Carries S (with_found r f) (with_found q g)
  carry f g refused later = refused
  carry f g (carried {x = x} {y = y} so) later = later x y refl refl so

module _ {A : Type 0} (S : A → A → Type 0) where
  -- where both find the same
  pub carry_same : {X : Type 0} (r q : Result X RuleFault) (f g : X → Result A RuleFault) → r ≡ q → ((x : X) → r ≡ Ok x → Carries S (f x) (g x)) → Carries S (with_found r f) (with_found q g)
  carry_same (Err fault) q f g e later = refused
  carry_same (Ok x) q f g e later = subst (λ q. Carries S (f x) (with_found q g)) e (later x refl)

  pub carry_none : (o p : Option RuleFault) (r q : Result A RuleFault) → o ≡ p → Carries S r q → Carries S (needs_none o r) (needs_none p q)
  carry_none (Some fault) p r q e so = refused
  carry_none None p r q e so = subst (λ p. Carries S r (needs_none p q)) e so

  pub carry_refuse : (b d : Bool) (rule : Rule) (at : Place) (r q : Result A RuleFault) → b ≡ d → Carries S r q → Carries S (refuse_if b rule at r) (refuse_if d rule at q)
  carry_refuse true d rule at r q e so = refused
  carry_refuse false d rule at r q e so = subst (λ d. Carries S r (refuse_if d rule at q)) e so

  pub carry_needs : {X : Type 0} (o : Option X) (rule : Rule) (at : Place) (f g : X → Result A RuleFault) → ((x : X) → Carries S (f x) (g x)) → Carries S (needs o rule at f) (needs o rule at g)
  carry_needs None rule at f g so = refused
  carry_needs (Some x) rule at f g so = so x
