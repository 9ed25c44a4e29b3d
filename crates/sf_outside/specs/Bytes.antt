-- What a write leaves and what a read at a place gives.
use Rattle.std.specs.Prelude.{ℕ, ◌≡◌, ◌-◌, ◌<◌, ◌≤◌, min, List, length, take, drop, ⊤, None, Some, IfOk}
use Rattle.std.specs.declared.option.Option.{Option}
use Rattle.std.specs.declared.result.Result.{Result}
use Rattle.std.specs.Io.KnownBytes.{Appends}

-- known bytes grow by a prefix of these
abbrev pub AppendsPrefix : Option (List ℕ) → Option (List ℕ) → List ℕ → Type 0
AppendsPrefix old new bytes = (n : ℕ) × Appends old new (take n bytes)

-- the first n bytes of the buffer are those of the file from this place on, and only at its end are they none
pub record Copied (all : List ℕ) (at n : ℕ) (buf : List ℕ) : Type 0 where
  pub bytes : take n buf ≡ take n (drop at all)
  pub end : n ≡ 0 → 0 < length buf → length all ≤ at

-- a copy has as many bytes as stand there and have room
pub record CopiedAll (all : List ℕ) (at n : ℕ) (buf : List ℕ) : Type 0 where
  pub count : n ≡ min (length buf) (length all - at)
  pub bytes : take n buf ≡ take n (drop at all)

-- a read of known bytes copied as many as it says
abbrev pub ReadsAt : {E : Type 0} → Option (List ℕ) → ℕ → Result ℕ E → List ℕ → Type 0
ReadsAt None at result buf = ⊤
ReadsAt (Some all) at result buf = IfOk result (λ n. Copied all at n buf)
