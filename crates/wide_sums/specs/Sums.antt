-- What a sum stands for, and the digits at the end of a number.
use Rattle.std.specs.Prelude.{ℕ, ℤ, zero, suc, pos, neg_ℤ, ◌≡◌, ◌+◌, ◌^◌, ◌≤◌, ◌<◌, ◌-ℤ◌, ◌/◌, ◌%◌, Bool, true, false, List, [], ◌∷◌, ◌++◌}
use Rattle.wide_sums.specs.declared.sum.Distance.{Distance}
use Rattle.wide_sums.specs.declared.sum.Sum.{Sum}

-- what was added, without what was taken away
abbrev pub sum_of : Sum → ℤ
sum_of s = pos s.above -ℤ pos s.below

-- one more number has room, as long as there are fewer than 2^64
pub record HasRoom (s : Sum) : Type 0 where
  pub above : s.above ≤ 2 ^ 191
  pub below : s.below ≤ 2 ^ 191

-- a sum with one more number of 128 bits isn't far from the one before it
pub record IsNear (s next : Sum) : Type 0 where
  pub above : next.above ≤ s.above + 2 ^ 127
  pub below : next.below ≤ s.below + 2 ^ 127

-- a number with a sign
abbrev pub signed : Bool → ℕ → ℤ
signed false n = pos n
signed true n = neg_ℤ (pos n)

-- this far from 0, on this side
pub record IsAway (s : Sum) (d : Distance) : Type 0 where
  pub sum : sum_of s ≡ signed d.negative d.size
  pub some : d.negative ≡ true → 0 < d.size

-- the last so many decimal digits of a number, with zeros in front
unfoldable pub last_digits : ℕ → ℕ → List ℕ
last_digits zero n = []
last_digits (suc k) n = last_digits k (n / 10) ++ ((48 + n % 10) ∷ [])
