-- What reading the front of bytes answers.
use Rattle.std.specs.Prelude.{◌≡◌, ℕ, ◌≤◌, List as Items, length, take, ◌++◌, Option, Some, None, Result, Ok, Err}
use Rattle.std.specs.declared.alloc.AllocError.{AllocError}

-- so many bytes at the front are the item's
abbrev pub BeginsWith : {A : Type 0} → (A → Items ℕ) → Items ℕ → A → ℕ → Type 0
BeginsWith item_bytes bytes item count = (count ≤ length bytes) × (take count bytes ≡ item_bytes item)

-- an item and a count where the bytes begin so, nothing where they begin with no item's, and want of memory in place of any answer
abbrev pub Reads : {A : Type 0} → (A → Items ℕ) → (A → Type 0) → Items ℕ → Result (Option (A × ℕ)) AllocError → Type 0
Reads item_bytes IsItem bytes (Ok (Some found)) = IsItem found.0 × BeginsWith item_bytes bytes found.0 found.1
Reads {A} item_bytes IsItem bytes (Ok None) = (item : A) (count : ℕ) → IsItem item → BeginsWith item_bytes bytes item count → ⊥
Reads item_bytes IsItem bytes (Err e) = Unit {0}

-- no item's bytes begin another's, whatever follows them
abbrev pub NoneBeginsAnother : {A : Type 0} → (A → Items ℕ) → (A → Type 0) → Type 0
NoneBeginsAnother {A} item_bytes IsItem = (a b : A) (after_a after_b : Items ℕ) → IsItem a → IsItem b → item_bytes a ++ after_a ≡ item_bytes b ++ after_b → a ≡ b
