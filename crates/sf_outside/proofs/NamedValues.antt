-- Things with names, of which the first of a name counts.
use Rattle.std.proofs.Common.{◌≡◌, ◌≢◌, ℕ, zero, suc, ◌≤◌, ◌<◌, Bool, true, false, cond, List, [], ◌∷◌, ◌++◌, length, get_or, set, Some, None, refl, sym, ap, arith, bytes_eq}
use Rattle.std.specs.List.{position, position_or_len}
use Rattle.std.proofs.lemmas.List.Quantifiers.{position-Some}
use Rattle.std.proofs.lemmas.List.Sums.{fails_before_first}
use Rattle.std.proofs.lemmas.Grind.{common_steps}
use Rattle.std.proofs.lemmas.Slice.Eq.{bytes_eq-Decides}
use Rattle.sf_outside.specs.Named.{value_named}

-- the place of the first thing of a name
pub record FirstAt {X : Type 0} (name : X → List ℕ) (xs : List X) (q : List ℕ) (i : ℕ) (d : X) : Type 0 where
  pub within : i < length xs
  pub here : bytes_eq (name (get_or xs i d)) q ≡ true
  pub before : (k : ℕ) → k < i → bytes_eq (name (get_or xs k d)) q ≡ false

cond_related : {V : Type 0} (R : V → V → Type 0) (b : Bool) (x y x' y' : V) → R x x' → R y y' → R (cond b x y) (cond b x' y')
cond_related R true x y x' y' here there = here
cond_related R false x y x' y' here there = there

module _ {X : Type 0} (name : X → List ℕ) where
  pub first_at : (xs : List X) (q : List ℕ) (i : ℕ) (d : X) → Some i ≡ position (λ x. bytes_eq (name x) q) xs → FirstAt name xs q i d
  first_at xs q i d found =
      let facts = position-Some (λ x. bytes_eq (name x) q) xs i d (sym found) in
      record { within = facts.0; here = facts.1; before = facts.2 }

  pub rest_first : (x : X) (xs : List X) (q : List ℕ) (i : ℕ) (d : X) → FirstAt name (x ∷ xs) q (suc i) d → FirstAt name xs q i d
  rest_first x xs q i d first = record { within = omega (arith, first.within); here = first.here; before = λ k lt. first.before (suc k) (omega (arith, lt)) }

  pub none_named : (xs : List X) (q : List ℕ) → None ≡ position (λ x. bytes_eq (name x) q) xs → (k : ℕ) (d : X) → k < length xs → bytes_eq (name (get_or xs k d)) q ≡ false
  none_named xs q none k d within =
      let past : length xs ≤ position_or_len (λ x. bytes_eq (name x) q) xs = grind (arith, common_steps) in
      fails_before_first (λ x. bytes_eq (name x) q) xs k d (omega (arith, within, past))

  module _ {V : Type 0} (value : X → V) (other : V) where
    pub value_named-first : (xs : List X) (q : List ℕ) (i : ℕ) (d : X) → FirstAt name xs q i d → value_named name value other xs q ≡ value (get_or xs i d)
    value_named-first [] q i d first = absurd (omega (arith, first.within))
    value_named-first (x ∷ xs) q zero d first = rw first.here refl
    value_named-first (x ∷ xs) q (suc i) d first = rw (first.before 0 (omega arith)) (value_named-first xs q i d (rest_first x xs q i d first))

    -- another thing of the same name in place of the first
    pub value_named-set : (xs : List X) (q : List ℕ) (i : ℕ) (d new : X) → FirstAt name xs q i d → name new ≡ name (get_or xs i d) → value_named name value other (set xs i new) q ≡ value new
    value_named-set [] q i d new first same = absurd (omega (arith, first.within))
    value_named-set (x ∷ xs) q zero d new first same = rw (same, first.here) refl
    value_named-set (x ∷ xs) q (suc i) d new first same = rw (first.before 0 (omega arith)) (value_named-set xs q i d new (rest_first x xs q i d first) same)

    -- and the values of every name, in a relation that the two things are in
    pub value_named-related : (R : V → V → Type 0) → ((v : V) → R v v) → (xs : List X) (i : ℕ) (d new : X) (q : List ℕ) → i < length xs → name new ≡ name (get_or xs i d) → R (value (get_or xs i d)) (value new)
        → R (value_named name value other xs q) (value_named name value other (set xs i new) q)
    value_named-related R same [] i d new q within named related = absurd (omega (arith, within))
    value_named-related R same (x ∷ xs) zero d new q within named related = rw named (cond_related R (bytes_eq (name x) q) _ _ _ _ related (same _))
    value_named-related R same (x ∷ xs) (suc i) d new q within named related =
        cond_related R (bytes_eq (name x) q) _ _ _ _ (same _) (value_named-related R same xs i d new q (omega arith) named related)

    -- other names have what they had
    pub value_named-others : (xs : List X) (i : ℕ) (d new : X) (q : List ℕ) → i < length xs → name new ≡ name (get_or xs i d) → bytes_eq (name (get_or xs i d)) q ≡ false
        → value_named name value other (set xs i new) q ≡ value_named name value other xs q
    value_named-others [] i d new q within named differs = absurd (omega (arith, within))
    value_named-others (x ∷ xs) zero d new q within named differs = rw (named, differs) refl
    value_named-others (x ∷ xs) (suc i) d new q within named differs =
        ap (λ rest. cond (bytes_eq (name x) q) (value x) rest) (value_named-others xs i d new q (omega arith) named differs)

    pub value_named-missing : (xs : List X) (q : List ℕ) → ((k : ℕ) (d : X) → k < length xs → bytes_eq (name (get_or xs k d)) q ≡ false) → value_named name value other xs q ≡ other
    value_named-missing [] q none = refl
    value_named-missing (x ∷ xs) q none =
        let here : bytes_eq (name x) q ≡ false = none 0 x (omega arith) in
        rw here (value_named-missing xs q (λ k d within. none (suc k) d (omega (arith, within))))

  -- one thing more
  pub value_named-push : {V : Type 0} (value : X → V) (other : V) (xs : List X) (new : X) (q : List ℕ) → value_named name value other (xs ++ new ∷ []) q ≡ value_named name value (cond (bytes_eq (name new) q) (value new) other) xs q
  value_named-push value other [] new q = refl
  value_named-push value other (x ∷ xs) new q = ap (λ rest. cond (bytes_eq (name x) q) (value x) rest) (value_named-push value other xs new q)

  -- a greater value for names that no thing has
  pub value_named-later : (value : X → ℕ) (before now : ℕ) (xs : List X) (q : List ℕ) → before ≤ now → value_named name value before xs q ≤ value_named name value now xs q
  value_named-later value before now [] q later = later
  value_named-later value before now (x ∷ xs) q later =
      cond_related (λ a b. a ≤ b) (bytes_eq (name x) q) _ _ _ _ (omega arith) (value_named-later value before now xs q later)

-- names that are the same, or not
pub same_name : (a b : List ℕ) → bytes_eq a b ≡ true → a ≡ b
same_name a b same = grind (arith, common_steps, bytes_eq-Decides a b)

pub other_name : (a b : List ℕ) → a ≢ b → bytes_eq a b ≡ false
other_name a b differs = grind (arith, common_steps, bytes_eq-Decides a b)
