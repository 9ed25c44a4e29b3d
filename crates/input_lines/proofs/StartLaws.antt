-- The start of a line tells as much as the line.
use Rattle.std.proofs.Common.{◌≡◌, ◌≤◌, ◌<◌, ℕ, ◌+◌, nat_le, Bool, true, false, cond, List, [], ◌∷◌, length, take, sym, ap, ◌∙◌, refl, arith}
use Rattle.std.proofs.lemmas.List.{take_all, length-take}
use Rattle.std.proofs.lemmas.Bool.Decides.{nat_tests}

-- whether a list has at most m elements, and then the list, is told by its first m + 1
pub start_tells : {A : Type 0} (m : ℕ) (line : List ℕ) (f : List ℕ → A) (over : A)
    → cond (nat_le (length (take (m + 1) line)) m) (f (take (m + 1) line)) over ≡ cond (nat_le (length line) m) (f line) over
start_tells {A} m line f over = by (nat_le (length line) m) refl
  where
    by : (b : Bool) → nat_le (length line) m ≡ b
        → cond (nat_le (length (take (m + 1) line)) m) (f (take (m + 1) line)) over ≡ cond (nat_le (length line) m) (f line) over
    by true h =
        let short : length line ≤ m = grind (arith, nat_tests) in
        ap (λ l. cond (nat_le (length l) m) (f l) over) (take_all (m + 1) line (omega arith))
    by false h =
        let long : m < length line = grind (arith, nat_tests) in
        let cut : length (take (m + 1) line) ≡ m + 1 = omega (arith, length-take (m + 1) line) in
        let past : nat_le (length (take (m + 1) line)) m ≡ false = grind (arith, nat_tests) in
        ap (λ b. cond b (f (take (m + 1) line)) over) past ∙ sym (ap (λ b. cond b (f line) over) h)

-- a line that has a byte has a start with one, and an empty line has none
pub some_start : (m b : ℕ) (line : List ℕ) → [] ≡ take (m + 1) (b ∷ line) → ⊥
some_start m b line h = omega (arith, ap length h, length-take (m + 1) (b ∷ line))

pub no_start : (m b : ℕ) (kept : List ℕ) → b ∷ kept ≡ take (m + 1) [] → ⊥
no_start m b kept h = omega (arith, ap length h, length-take {A = ℕ} (m + 1) [])
