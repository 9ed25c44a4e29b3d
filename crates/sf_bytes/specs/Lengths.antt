-- How long spellings are.
use Rattle.std.specs.Prelude.{◌≡◌, ℕ, List as Items, length}

-- each is as long as the size of its thing
abbrev pub HasSizes : {A : Type 0} → (A → Items ℕ) → (A → ℕ) → Type 0
HasSizes {A} item_bytes item_size = (item : A) → length (item_bytes item) ≡ item_size item
