-- What holds of all that rules find, where they find something.
use Rattle.std.proofs.Common.{◌≡◌, Bool, true, false, Option, Some, None, Result, Ok, Err, refl, subst}
use Rattle.py_tree.specs.declared.names.Place.{Place}
use Rattle.py_tree.specs.declared.rule.RuleFault.{RuleFault}
use Rattle.py_tree.specs.declared.rule.Rule.{Rule}
use Rattle.py_tree.specs.ExpressionTypes.{needs, refuse_if, with_found}
use Rattle.py_tree.specs.Flow.{needs_none}
use Rattle.program_meaning.proofs.TypedParts.{same_ok, err_ok}

pub data Says {A : Type 0} (Q : A → Type 0) : Result A RuleFault → Type 0 where
  unsaid : {fault : RuleFault} → Says Q (Err fault)
  said : {x : A} → Q x → Says Q (Ok x)

pub hears : {A : Type 0} {Q : A → Type 0} {r : Result A RuleFault} → Says Q r → (x : A) → r ≡ Ok x → Q x
hears (unsaid {fault = fault}) x e = absurd (err_ok fault x e)
hears {Q = Q} (said {x = y} q) x e = subst Q (same_ok y x e) q

pub by_found : {A : Type 0} {Q : A → Type 0} (r : Result A RuleFault) → ((x : A) → r ≡ Ok x → Q x) → Says Q r
by_found (Ok x) f = said (f x refl)
by_found (Err fault) f = unsaid

pub says_more : {A : Type 0} {Q S : A → Type 0} → ((x : A) → Q x → S x) → {r : Result A RuleFault} → Says Q r → Says S r
says_more more unsaid = unsaid
says_more more (said {x = x} q) = said (more x q)

module _ {A : Type 0} (S : A → Type 0) where
  pub say : {X : Type 0} {Q : X → Type 0} {r : Result X RuleFault} (f : X → Result A RuleFault) → Says Q r → ((x : X) → r ≡ Ok x → Q x → Says S (f x)) → Says S (with_found r f)
  say f unsaid later = unsaid
  say f (said {x = x} q) later = later x refl q

  -- whatever is found
  pub say_any : {X : Type 0} (r : Result X RuleFault) (f : X → Result A RuleFault) → ((x : X) → r ≡ Ok x → Says S (f x)) → Says S (with_found r f)
  say_any (Ok x) f later = later x refl
  say_any (Err fault) f later = unsaid

  pub say_none : (o : Option RuleFault) (r : Result A RuleFault) → (o ≡ None → Says S r) → Says S (needs_none o r)
  say_none None r later = later refl
  say_none (Some fault) r later = unsaid

  pub say_refuse : (b : Bool) (rule : Rule) (at : Place) (r : Result A RuleFault) → (b ≡ false → Says S r) → Says S (refuse_if b rule at r)
  say_refuse true rule at r later = unsaid
  say_refuse false rule at r later = later refl

  pub say_needs : {X : Type 0} (o : Option X) (rule : Rule) (at : Place) (f : X → Result A RuleFault) → ((x : X) → o ≡ Some x → Says S (f x)) → Says S (needs o rule at f)
  say_needs None rule at f later = unsaid
  say_needs (Some x) rule at f later = later x refl
