-- Which calls are to fail.
use Rattle.std.specs.Prelude.{ℕ, Bool, List, ◌==◌}
use Rattle.std.specs.List.{list_any}

-- the numbers, from 1, of the calls that are to fail, and how many calls were made, as far as the count reaches
pub record CallsState : Type 0 where
  pub fail_at : List ℕ
  pub made : ℕ

-- whether the call of this number is among those that are to fail
abbrev pub is_due : List ℕ → ℕ → Bool
is_due fail_at call = list_any (λ number. number == call) fail_at
