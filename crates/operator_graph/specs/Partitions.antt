-- How many partitions the keys of a class may fall into.
use Rattle.std.specs.Prelude.{ℕ, ◌≤◌}

-- there are some, and few enough that the operators of all classes have numbers of 32 bits
pub record IsParts (parts : ℕ) : Type 0 where
  pub some : 1 ≤ parts
  pub few : parts ≤ 64
