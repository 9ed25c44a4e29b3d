-- Gates in a file, and the bytes that stand at a place.
use Rattle.std.specs.Prelude.{ℕ, ◌≡◌, ◌≢◌, List, [], ◌∷◌, length, take, drop}

-- the byte of an open gate; any other byte is a closed one
abbrev pub open_gate : ℕ
open_gate = 165

-- these bytes stand in the file at this place
abbrev pub StandsAt : List ℕ → ℕ → List ℕ → Type 0
StandsAt file at bytes = take (length bytes) (drop at file) ≡ bytes

-- a closed gate is in the file at this place
abbrev pub ClosedAt : List ℕ → ℕ → Type 0
ClosedAt file at = (gate : ℕ) × (gate ≢ open_gate) × StandsAt file at (gate ∷ [])

-- an open one is
abbrev pub OpenAt : List ℕ → ℕ → Type 0
OpenAt file at = StandsAt file at (open_gate ∷ [])
