-- What a reader is made of. It gives a part of a text, what stands behind it, and the derivation that it is there; or it gives
-- nothing. It is run by computing, and needs no proof beside it: the type of what it gives says what that means.
use Rattle.std.proofs.Common.{◌≡◌, ◌<◌, ℕ, zero, suc, Bool, true, false, Some, None, refl, arith}
use Rattle.std.specs.declared.option.Option.{Option}

abbrev pub Reads : {A P : Type 0} → (A → P → Type 0) → Type 0
Reads {A = A} {P = P} Is = Option ((x : A) × (behind : P) × Is x behind)

-- a step, and those behind it; a step that gives nothing ends them
infixl 10 ◌>>=◌
abbrev pub ◌>>=◌ : {A B : Type 0} → Option A → (A → Option B) → Option B
None >>= more = None
Some x >>= more = more x

-- Steps that ask a test

abbrev pub holds : (b : Bool) → Option (b ≡ true)
holds true = Some refl
holds false = None

abbrev pub fails : (b : Bool) → Option (b ≡ false)
fails true = None
fails false = Some refl

abbrev pub present : {V : Type 0} (o : Option V) → Option ((v : V) × (o ≡ Some v))
present None = None
present (Some v) = Some (v, refl)

abbrev pub absent : {V : Type 0} (o : Option V) → Option (o ≡ None)
absent None = Some refl
absent (Some v) = None

pub above_zero : (n : ℕ) → 0 < suc n
above_zero n = omega arith

-- a level is left
abbrev pub some_left : (n : ℕ) → Option (0 < n)
some_left zero = None
some_left (suc n) = Some (above_zero n)

-- either way, by a test's answer
abbrev pub by_test : {R : Type 0} (b : Bool) → (b ≡ true → R) → (b ≡ false → R) → R
by_test true one other = one refl
by_test false one other = other refl

abbrev pub by_option : {V R : Type 0} (o : Option V) → ((v : V) → o ≡ Some v → R) → (o ≡ None → R) → R
by_option None some none = none refl
by_option (Some v) some none = some v refl

-- What was given

abbrev pub IsGiven : {A : Type 0} → Option A → Type 0
IsGiven None = ⊥
IsGiven (Some x) = Unit {0}

abbrev pub given : {A : Type 0} (o : Option A) → IsGiven o → A
given None is = absurd is
given (Some x) is = x
