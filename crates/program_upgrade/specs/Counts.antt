-- How many values lists have together.
use Rattle.std.specs.Prelude.{ℕ, ◌+◌, List, [], ◌∷◌, length}
use Rattle.sf_value.specs.declared.value.Value.{Value}

abbrev pub count_of : List (List Value) → ℕ
count_of [] = 0
count_of (vs ∷ more) = length vs + count_of more
