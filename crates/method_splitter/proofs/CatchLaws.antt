-- Catches as code holds them: their copies, and their floor from the last one on.
use Rattle.std.proofs.Common.{◌≡◌, ℕ, zero, suc, ◌+◌, ◌≤◌, arith, List, [], ◌∷◌, length, drop, get_or, refl, sym, ap, ◌∙◌, subst}
use Rattle.std.specs.Prelude.{max}
use Rattle.std.proofs.Math.Nat.{le-max_left}
use Rattle.sf_list.specs.Copies.{AreCopies}
use Rattle.sf_list.proofs.CopyLaws.{equal_copies}
use Rattle.method_splitter.specs.declared.around.Caught as caught
use Rattle.method_splitter.specs.Split.{Caught, floor, raised}
use Rattle.method_splitter.specs.Rests.{plain_caught, plain_caughts}
use Rattle.method_splitter.proofs.RestsRun.{at_most}
use Rattle.method_splitter.proofs.RankLaws.{floor_grows}
use Rattle.method_splitter.proofs.FromTheEnd.{all_from}

pub caughts_alike : (xs ys : List caught.Caught) → AreCopies (λ old made. made ≡ old) xs ys → plain_caughts ys ≡ plain_caughts xs
caughts_alike xs ys h = ap plain_caughts (equal_copies xs ys h)

-- with no floor, a rank is the greater one of both
pub as_max : (low rank : ℕ) → max rank low ≡ raised low rank
as_max zero rank = omega arith
as_max (suc low) rank = refl

-- the last ones have no greater floor than all
floor_of_last : (ks : List Caught) (i : ℕ) → floor (drop i ks) ≤ floor ks
floor_of_last ks zero = omega arith
floor_of_last [] (suc i) = omega arith
floor_of_last (k ∷ ks) (suc i) = at_most (floor_of_last ks i) (floor_grows k ks)

module _ (xs : List caught.Caught) (i at : ℕ) (x : caught.Caught) (next : i + 1 ≡ at) (less : at ≤ length xs) (is : x ≡ get_or xs i x) where
  -- with the one before them
  pub floor_with : floor (drop i (plain_caughts xs)) ≡ max (x.to.rank + 1) (floor (drop at (plain_caughts xs)))
  floor_with =
      let one : suc x.to.rank ≡ x.to.rank + 1 = omega arith in
      ap floor (all_from plain_caught xs i at x next less is) ∙ ap (λ n. max n (floor (drop at (plain_caughts xs)))) one

  -- what is no less than the floor has room above each rank
  pub room_above : (most : ℕ) → floor (plain_caughts xs) ≤ most → x.to.rank + 1 ≤ most
  room_above most low =
      let here : x.to.rank + 1 ≤ max (x.to.rank + 1) (floor (drop at (plain_caughts xs))) = le-max_left (x.to.rank + 1) (floor (drop at (plain_caughts xs))) in
      at_most (subst (λ n. x.to.rank + 1 ≤ n) (sym floor_with) here) (at_most (floor_of_last (plain_caughts xs) i) low)
