-- Floor division and modulo of whole numbers, by the Python Language Reference (binary arithmetic operations).
use Rattle.std.specs.Prelude.{◌≡◌, ◌⊎◌, ◌<◌, ◌+◌, ◌-◌, ◌/◌, ◌^◌, zero, suc, ℤ, pos, negsuc, ◌+ℤ◌, ◌-ℤ◌, ◌*ℤ◌, ◌<ℤ◌, unsigned_abs}

-- both are above 0, or both are below
abbrev pub HaveSameSign : ℤ → ℤ → Type 0
HaveSameSign a b = ((pos 0 <ℤ a) × (pos 0 <ℤ b)) ⊎ ((a <ℤ pos 0) × (b <ℤ pos 0))

-- one is above 0, and the other is below
abbrev pub HaveOppositeSigns : ℤ → ℤ → Type 0
HaveOppositeSigns a b = ((pos 0 <ℤ a) × (b <ℤ pos 0)) ⊎ ((a <ℤ pos 0) × (pos 0 <ℤ b))

-- `x // y` is q and `x % y` is r: x is q * y + r, where r is 0 or has the sign of y, and is smaller than y without signs
pub record FloorDivides (x y q r : ℤ) : Type 0 where
  pub sum : x ≡ q *ℤ y +ℤ r
  pub sign : (r ≡ pos 0) ⊎ HaveSameSign r y
  pub smaller : unsigned_abs r < unsigned_abs y

-- x and y have one such q and one such r
pub record HasOneQuotient (x y : ℤ) : Type 0 where
  pub quotient : ℤ
  pub remainder : ℤ
  pub divides : FloorDivides x y quotient remainder
  pub only : (q r : ℤ) → FloorDivides x y q r → (q ≡ quotient) × (r ≡ remainder)

-- no q of 128 bits: y is 0, or q is 2^127, where x is -2^127 and y is -1
abbrev pub HasNoQuotient : ℤ → ℤ → Type 0
HasNoQuotient x y = (y ≡ pos 0) ⊎ ((x ≡ negsuc (2 ^ 127 - 1)) × (y ≡ negsuc 0))

-- `x // y` and `x % y`, where y isn't 0: the quotient is rounded down
abbrev pub floor_quotient : ℤ → ℤ → ℤ
floor_quotient (pos a) (pos b) = pos (a / b)
floor_quotient (negsuc a) (pos b) = negsuc (a / b)
floor_quotient (pos zero) (negsuc b) = pos 0
floor_quotient (pos (suc a)) (negsuc b) = negsuc (a / (b + 1))
floor_quotient (negsuc a) (negsuc b) = pos ((a + 1) / (b + 1))

abbrev pub floor_rest : ℤ → ℤ → ℤ
floor_rest x y = x -ℤ floor_quotient x y *ℤ y
