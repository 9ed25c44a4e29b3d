-- The quotient and the rest that are rounded down are those of floor division.
use Rattle.std.proofs.Common.{◌≡◌, ◌≢◌, ◌⊎◌, inl, inr, ℕ, zero, suc, ◌+◌, ◌-◌, ◌*◌, ◌/◌, ◌%◌, ◌<◌, ℤ, pos, negsuc, ◌-ℤ◌, ◌*ℤ◌, neg_ℤ, unsigned_abs, refl, sym, ap, ◌∙◌, arith, subst}
use Rattle.std.proofs.lemmas.Int.{ints}
use Rattle.std.proofs.lemmas.Nat.{div-add-mod'}
use Rattle.sf_value.specs.Arithmetic.{HaveSameSign, FloorDivides, floor_quotient, floor_rest}
use Rattle.sf_value.proofs.Quotients.{one_quotient}

-- a rest from 0 up below a divisor above 0
rest_above : (x q : ℤ) (d r : ℕ) → x -ℤ q *ℤ pos d ≡ pos r → r < d → FloorDivides x (pos d) q (pos r)
rest_above x q d r is below = record { sum = omega (arith, ints, is); sign = signed r; smaller = below }
  where
    signed : (n : ℕ) → (pos n ≡ pos 0) ⊎ HaveSameSign (pos n) (pos d)
    signed zero = inl refl
    signed (suc n) = inr (inl (omega (arith, ints), omega (arith, ints, below)))

-- a rest from 0 down above a divisor below 0
rest_below : (x q : ℤ) (d r : ℕ) → x -ℤ q *ℤ negsuc d ≡ neg_ℤ (pos r) → r < suc d → FloorDivides x (negsuc d) q (neg_ℤ (pos r))
rest_below x q d r is below = record { sum = omega (arith, ints, is); sign = signed r; smaller = small r below }
  where
    signed : (n : ℕ) → (neg_ℤ (pos n) ≡ pos 0) ⊎ HaveSameSign (neg_ℤ (pos n)) (negsuc d)
    signed zero = inl refl
    signed (suc n) = inr (inr (omega (arith, ints), omega (arith, ints)))

    small : (n : ℕ) → n < suc d → unsigned_abs (neg_ℤ (pos n)) < suc d
    small zero h = h
    small (suc n) h = h

mod_small : (a d : ℕ) → 0 < d → a % d < d
mod_small a d h = omega arith

both_below : (q b : ℕ) → negsuc q *ℤ negsuc b ≡ pos (q * suc b + suc b)
both_below q b = ap pos (grind arith)

floor_divides : (x y : ℤ) → y ≢ pos 0 → FloorDivides x y (floor_quotient x y) (floor_rest x y)
floor_divides x (pos zero) n = absurd (n refl)
floor_divides (pos a) (pos (suc b)) n =
    let e = div-add-mod' a (suc b) in
    let is : floor_rest (pos a) (pos (suc b)) ≡ pos (a % suc b) = omega (arith, ints, e) in
    subst (FloorDivides (pos a) (pos (suc b)) (floor_quotient (pos a) (pos (suc b)))) (sym is) (rest_above (pos a) _ (suc b) (a % suc b) is (mod_small a (suc b) (omega arith)))
floor_divides (negsuc a) (pos (suc b)) n =
    let e = div-add-mod' a (suc b) in
    let s = mod_small a (suc b) (omega arith) in
    let is : floor_rest (negsuc a) (pos (suc b)) ≡ pos (b - a % suc b) = omega (arith, ints, e, s) in
    subst (FloorDivides (negsuc a) (pos (suc b)) (floor_quotient (negsuc a) (pos (suc b)))) (sym is) (rest_above (negsuc a) _ (suc b) (b - a % suc b) is (omega arith))
floor_divides (pos zero) (negsuc b) n =
    let is : floor_rest (pos 0) (negsuc b) ≡ pos 0 = omega (arith, ints) in
    subst (FloorDivides (pos 0) (negsuc b) (pos 0)) (sym is) (rest_below (pos 0) (pos 0) b 0 is (omega arith))
floor_divides (pos (suc a)) (negsuc b) n =
    let e = div-add-mod' a (suc b) in
    let s = mod_small a (suc b) (omega arith) in
    let up : b + 1 ≡ suc b = omega arith in
    let q : floor_quotient (pos (suc a)) (negsuc b) ≡ negsuc (a / suc b) = ap (λ d. negsuc (a / d)) up in
    let is : floor_rest (pos (suc a)) (negsuc b) ≡ neg_ℤ (pos (b - a % suc b)) = ap (λ z. pos (suc a) -ℤ z *ℤ negsuc b) q ∙ ap (λ z. pos (suc a) -ℤ z) (both_below (a / suc b) b) ∙ omega (arith, ints, e, s) in
    subst (FloorDivides (pos (suc a)) (negsuc b) (floor_quotient (pos (suc a)) (negsuc b))) (sym is) (rest_below (pos (suc a)) _ b (b - a % suc b) is (omega arith))
floor_divides (negsuc a) (negsuc b) n =
    let e = div-add-mod' (suc a) (suc b) in
    let up : b + 1 ≡ suc b = omega arith in
    let more : a + 1 ≡ suc a = omega arith in
    let q : floor_quotient (negsuc a) (negsuc b) ≡ pos (suc a / suc b) = λ i. pos (more i / up i) in
    let is : floor_rest (negsuc a) (negsuc b) ≡ neg_ℤ (pos (suc a % suc b)) = ap (λ z. negsuc a -ℤ z *ℤ negsuc b) q ∙ omega (arith, ints, e) in
    subst (FloorDivides (negsuc a) (negsuc b) (floor_quotient (negsuc a) (negsuc b))) (sym is) (rest_below (negsuc a) _ b (suc a % suc b) is (mod_small (suc a) (suc b) (omega arith)))

-- whatever divides so is that quotient, with that rest
pub floor_is : (x y q r : ℤ) → y ≢ pos 0 → FloorDivides x y q r → (q ≡ floor_quotient x y) × (r ≡ floor_rest x y)
floor_is x y q r n f =
    let one = one_quotient x y n in
    let a = one.only q r f in
    let b = one.only (floor_quotient x y) (floor_rest x y) (floor_divides x y n) in
    (a.0 ∙ sym b.0, a.1 ∙ sym b.1)
