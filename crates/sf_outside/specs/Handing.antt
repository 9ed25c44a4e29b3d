-- What a sink has handed on of the bytes that it holds.
use Rattle.std.specs.Prelude.{◌≡◌, ℕ, List, ◌++◌, ⊤, None, Some}
use Rattle.std.specs.declared.option.Option.{Option}
use Rattle.std.specs.Io.KnownBytes.{Appends}

-- what was handed on is a front of what is held, where both are told
abbrev pub IsFrontOf : Option (List ℕ) → Option (List ℕ) → Type 0
IsFrontOf None held = ⊤
IsFrontOf (Some front) None = ⊤
IsFrontOf (Some front) (Some held) = (rest : List ℕ) × (held ≡ front ++ rest)

-- nothing that was handed on is taken back, and what is handed on is held
pub record HandsOn (old new held : Option (List ℕ)) : Type 0 where
  pub more : List ℕ
  pub grows : Appends old new more
  pub front : IsFrontOf new held

-- all that is held was handed on, where that is told
abbrev pub IsHandedOn : Option (List ℕ) → Option (List ℕ) → Type 0
IsHandedOn None held = ⊤
IsHandedOn (Some front) held = held ≡ Some front
