-- A floor is above the rank of each block where failures go on, and a raised rank is no less than it.
use Rattle.std.proofs.Common.{ℕ, zero, suc, ◌<◌, ◌≤◌, arith, List, ◌∷◌}
use Rattle.std.specs.Prelude.{max}
use Rattle.std.proofs.Math.Nat.{max-le, le-max_left, le-max_right}
use Rattle.method_splitter.specs.Split.{Caught, floor, raised}

pub raised_keeps : (low rank : ℕ) → rank ≤ raised low rank
raised_keeps zero rank = omega arith
raised_keeps (suc low) rank = le-max_left rank (suc low)

pub raised_reaches : (low rank : ℕ) → low ≤ raised low rank
raised_reaches zero rank = omega arith
raised_reaches (suc low) rank = le-max_right rank (suc low)

pub raised_within : (low rank most : ℕ) → low ≤ most → rank ≤ most → raised low rank ≤ most
raised_within zero rank most p q = q
raised_within (suc low) rank most p q = max-le q p

pub floor_above : (k : Caught) (ks : List Caught) → k.to.rank < floor (k ∷ ks)
floor_above k ks = let first : suc k.to.rank ≤ max (suc k.to.rank) (floor ks) = le-max_left (suc k.to.rank) (floor ks) in omega (arith, first)

pub floor_grows : (k : Caught) (ks : List Caught) → floor ks ≤ floor (k ∷ ks)
floor_grows k ks = le-max_right (suc k.to.rank) (floor ks)

pub floor_within : (k : Caught) (ks : List Caught) (most : ℕ) → suc k.to.rank ≤ most → floor ks ≤ most → floor (k ∷ ks) ≤ most
floor_within k ks most p q = max-le p q
