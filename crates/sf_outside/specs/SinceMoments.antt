-- Moments in a list of calls: the moment k comes after the first k of them.
use Rattle.std.specs.Prelude.{ℕ, ◌≤◌, List, length, take}
use Rattle.std.proofs.Common.{sym, subst}
use Rattle.std.proofs.Math.Nat.{le_refl}
use Rattle.std.proofs.Math.Seq.{take-length}
use Rattle.std.proofs.lemmas.List.{take_all}

-- P holds of the first calls at some moment from this one on
abbrev pub SomeSince : {A : Type 0} → (List A → Type 0) → List A → ℕ → Type 0
SomeSince P calls since = (k : ℕ) × (since ≤ k) × (k ≤ length calls) × P (take k calls)

-- the moment after the last call is one of those since an earlier one
pub counts_last : {A : Type 0} (P : List A → Type 0) (calls : List A) (since : ℕ) → since ≤ length calls → P calls → SomeSince P calls since
counts_last P calls since within here = (length calls, within, le_refl (length calls), subst P (sym (take-length calls)) here)

-- and the only one since itself
pub last_only : {A : Type 0} (P : List A → Type 0) (calls : List A) → SomeSince P calls (length calls) → P calls
last_only P calls some = subst P (take_all some.0 calls some.1) some.3
