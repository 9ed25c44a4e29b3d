-- The numbers that are drawn.
use Rattle.std.specs.Prelude.{ℕ, ◌+◌, ◌*◌, ◌/◌, ◌%◌, ◌^◌}

-- the state of the generator behind this one
abbrev pub next_number : ℕ → ℕ
next_number x = (x * 6364136223846793005 + 1442695040888963407) % 2 ^ 64

-- what is drawn where the generator stands here: the high bits of its next state
abbrev pub drawn : ℕ → ℕ
drawn x = next_number x / 2 ^ 33
