-- Counts of bytes, which stay at the last number of their type.
use Rattle.std.specs.Prelude.{ℕ, ◌≡◌, ◌+◌, ◌-◌, ◌^◌, min, List, length}

-- as far as a count reaches, it went on by so many bytes
abbrev pub CountsOn : ℕ → ℕ → ℕ → Type 0
CountsOn before now bytes = min now (2 ^ 64 - 1) ≡ min (before + bytes) (2 ^ 64 - 1)

-- as far as a count reaches, there are so many of these bytes
abbrev pub IsSizeOf : ℕ → List ℕ → Type 0
IsSizeOf size bytes = CountsOn 0 size (length bytes)
