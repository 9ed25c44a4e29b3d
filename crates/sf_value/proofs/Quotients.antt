-- From a division towards zero to one that rounds down, and that there is one of these.
use Rattle.std.proofs.Common.{◌≡◌, ◌≢◌, ◌⊎◌, inl, inr, ℕ, zero, suc, ◌+◌, ◌*◌, ◌/◌, ◌%◌, ◌<◌, ◌≤◌, ℤ, pos, negsuc, ◌+ℤ◌, ◌-ℤ◌, ◌*ℤ◌, neg_ℤ, unsigned_abs, int_div, int_rem, SFits, to_z, of_z, refl, sym, ap, ◌∙◌, arith}
use Rattle.std.proofs.lemmas.Int.{ints, quot-rem, rem_below, to_z-of_z}
use Rattle.std.proofs.lemmas.Bool.Decides.{nat_tests}
use Rattle.std.proofs.Math.IntN.{pred_ℤ-*ℤ, -ℤ_one}
use Rattle.std.specs.Int.{Width}
use Rattle.std.proofs.lemmas.Nat.{div-add-mod'}
use native.Mathlib.Nat.{div-le_self}
use lib.Arith.{digits_div, digits_mod}
use Rattle.sf_value.specs.Arithmetic.{HaveSameSign, HaveOppositeSigns, FloorDivides, HasOneQuotient}

-- ---- a division towards zero, kept or corrected by one

-- a remainder that isn't on the other side of 0 has the divisor's sign
sign_kept : (r y : ℤ) → unsigned_abs r < unsigned_abs y → (HaveOppositeSigns r y → ⊥) → (r ≡ pos 0) ⊎ HaveSameSign r y
sign_kept (pos zero) y s n = inl refl
sign_kept (pos (suc a)) (pos b) s n = inr (inl (omega (arith, ints), omega (arith, ints)))
sign_kept (pos (suc a)) (negsuc b) s n = absurd (n (inl (omega (arith, ints), omega (arith, ints))))
sign_kept (negsuc a) (pos b) s n = absurd (n (inr (omega (arith, ints), omega (arith, ints))))
sign_kept (negsuc a) (negsuc b) s n = inr (inr (omega (arith, ints), omega (arith, ints)))

-- a divisor with a remainder of the opposite sign added is smaller without signs
smaller_below : (a b : ℕ) → 0 < a → a < suc b → unsigned_abs (pos a +ℤ negsuc b) < suc b
smaller_below a b h s = grind (arith, nat_tests)

smaller_above : (a b : ℕ) → 0 < b → suc a < b → unsigned_abs (negsuc a +ℤ pos b) < b
smaller_above a b h s = grind (arith, nat_tests)

-- one that is on the other side, with the divisor added
sign_corrected : (r y : ℤ) → unsigned_abs r < unsigned_abs y → HaveOppositeSigns r y → HaveSameSign (r +ℤ y) y × (unsigned_abs (r +ℤ y) < unsigned_abs y)
sign_corrected (pos a) (pos b) s (inl h) = absurd (omega (arith, ints, h.1))
sign_corrected (pos a) (pos b) s (inr h) = absurd (omega (arith, ints, h.0))
sign_corrected (pos a) (negsuc b) s (inl h) = (inr (omega (arith, ints), omega (arith, ints)), smaller_below a b (omega (arith, ints, h.0)) s)
sign_corrected (pos a) (negsuc b) s (inr h) = absurd (omega (arith, ints, h.0))
sign_corrected (negsuc a) (pos b) s (inl h) = absurd (omega (arith, ints, h.0))
sign_corrected (negsuc a) (pos b) s (inr h) = (inl (omega (arith, ints), omega (arith, ints)), smaller_above a b (omega (arith, ints, h.1)) s)
sign_corrected (negsuc a) (negsuc b) s (inl h) = absurd (omega (arith, ints, h.0))
sign_corrected (negsuc a) (negsuc b) s (inr h) = absurd (omega (arith, ints, h.1))

-- the quotient one less, and the remainder a divisor more
one_less : (x y q r : ℤ) → q *ℤ y +ℤ r ≡ x → x ≡ (q -ℤ pos 1) *ℤ y +ℤ (r +ℤ y)
one_less x y q r e = let p : (q -ℤ pos 1) *ℤ y ≡ q *ℤ y -ℤ y = ap (λ z. z *ℤ y) (-ℤ_one q) ∙ pred_ℤ-*ℤ q y in omega (arith, ints, p)

-- a number other than 0 has a size
size_positive : (y : ℤ) → y ≢ pos 0 → 0 < unsigned_abs y
size_positive (pos zero) n = absurd (n refl)
size_positive (pos (suc a)) n = omega arith
size_positive (negsuc a) n = omega arith

-- the remainder r towards zero
module _ (x y r : ℤ) (nonzero : y ≢ pos 0) (is : r ≡ int_rem x y) where
  small : unsigned_abs r < unsigned_abs y
  small = rw is (rem_below x y (size_positive y nonzero))

  sums : int_div x y *ℤ y +ℤ r ≡ x
  sums = rw is (quot-rem x y)

  kept : (HaveOppositeSigns r y → ⊥) → FloorDivides x y (int_div x y) r
  kept n = record { sum = sym sums; sign = sign_kept r y small n; smaller = small }

  corrected : HaveOppositeSigns r y → FloorDivides x y (int_div x y -ℤ pos 1) (r +ℤ y)
  corrected h =
      let c = sign_corrected r y small h in
      record { sum = one_less x y (int_div x y) r sums; sign = inr c.0; smaller = c.1 }

-- ---- what the code computes fits

-- one less than a number that isn't above 0
one_down : (n : ℕ) → neg_ℤ (pos n) -ℤ pos 1 ≡ negsuc n
one_down zero = refl
one_down (suc n) = omega (arith, ints)

-- a remainder leaves the quotient smaller
rest_left : (a b : ℕ) → 0 < suc a % suc b → suc a / suc b ≤ a
rest_left a b h = let e : suc a / suc b * suc b + suc a % suc b ≡ suc a = div-add-mod' (suc a) (suc b) in grind arith

module _ (w : Width) where
  -- what is smaller without signs than a number that fits
  SFits-smaller : (r y : ℤ) → SFits w y → unsigned_abs r < unsigned_abs y → SFits w r
  SFits-smaller (pos a) (pos b) f s = record { sfits = omega (arith, f.sfits) }
  SFits-smaller (pos a) (negsuc b) f s = record { sfits = omega (arith, f.sfits) }
  SFits-smaller (negsuc a) (pos b) f s = record { sfits = omega (arith, f.sfits) }
  SFits-smaller (negsuc a) (negsuc b) f s = record { sfits = omega (arith, f.sfits) }

  -- a quotient that is corrected is no larger without signs than x, or 0
  SFits-corrected : (x y : ℤ) → SFits w x → HaveOppositeSigns (int_rem x y) y → SFits w (int_div x y -ℤ pos 1)
  SFits-corrected (pos a) (pos b) f h = absurd (elim h [ inl p ↦ omega (arith, ints, p.1) | inr p ↦ omega (arith, ints, p.0) ])
  SFits-corrected (pos a) (negsuc b) f h = rw (one_down (a / suc b)) (record { sfits = omega (arith, div-le_self a (suc b), f.sfits) })
  SFits-corrected (negsuc a) (pos zero) f h = absurd (elim h [ inl p ↦ omega (arith, ints, p.1) | inr p ↦ omega (arith, ints, p.1) ])
  SFits-corrected (negsuc a) (pos (suc b)) f h = rw (one_down (suc a / suc b)) (record { sfits = omega (arith, rest_left a b (elim h [ inl p ↦ absurd (omega (arith, ints, p.0)) | inr p ↦ omega (arith, ints, p.0) ]), f.sfits) })
  SFits-corrected (negsuc a) (negsuc b) f h = absurd (elim h [ inl p ↦ omega (arith, ints, p.0) | inr p ↦ omega (arith, ints, p.1) ])

-- ---- the results, as numbers that the code passes on

module _ (w : Width) (x y r : ℤ) (x_fits : SFits w x) (y_fits : SFits w y) (r_fits : SFits w r) (nonzero : y ≢ pos 0) (is : r ≡ int_rem x y) where
  pub mod_kept : (HaveOppositeSigns r y → ⊥) → FloorDivides x y (int_div x y) (to_z w (of_z w r))
  mod_kept n = rw (to_z-of_z w r r_fits) (kept x y r nonzero is n)

  pub mod_corrected : HaveOppositeSigns r y → FloorDivides x y (int_div x y -ℤ pos 1) (to_z w (of_z w (to_z w (of_z w r) +ℤ to_z w (of_z w y))))
  mod_corrected h =
      let floor = corrected x y r nonzero is h in
      rw (to_z-of_z w r r_fits, to_z-of_z w y y_fits, to_z-of_z w (r +ℤ y) (SFits-smaller w (r +ℤ y) y y_fits floor.smaller)) floor

  module _ (q : ℤ) (q_fits : SFits w q) (divides : q ≡ int_div x y) where
    pub div_kept : (HaveOppositeSigns r y → ⊥) → FloorDivides x y (to_z w (of_z w q)) r
    div_kept n = rw (to_z-of_z w q q_fits, divides) (kept x y r nonzero is n)

    pub div_corrected : HaveOppositeSigns r y → FloorDivides x y (to_z w (of_z w (to_z w (of_z w q) -ℤ pos 1))) (r +ℤ y)
    div_corrected h =
        let fits : SFits w (q -ℤ pos 1) = rw divides (SFits-corrected w x y x_fits (rw is at h)) in
        rw (to_z-of_z w q q_fits, to_z-of_z w (q -ℤ pos 1) fits, divides) (corrected x y r nonzero is h)

-- ---- one quotient

-- the same sum of a multiple and a rest below the divisor
same_sum : (d a b m n : ℕ) → a < d → b < d → m * d + a ≡ n * d + b → (m ≡ n) × (a ≡ b)
same_sum d a b m n p q e = (sym (digits_div m p) ∙ ap (λ z. z / d) e ∙ digits_div n q, sym (digits_mod m p) ∙ ap (λ z. z % d) e ∙ digits_mod n q)

-- a multiple is no less than the divisor
no_less : (d n : ℕ) → d ≤ suc n * d
no_less d n = grind arith

-- rests from 0 up, at a divisor above 0
above : (d a b : ℕ) (m n : ℤ) → a < d → b < d → m *ℤ pos d +ℤ pos a ≡ n *ℤ pos d +ℤ pos b → (m ≡ n) × (a ≡ b)
above d a b (pos m) (pos n) p q e = let s = same_sum d a b m n p q (omega (arith, ints, e)) in (ap pos s.0, s.1)
above d a b (pos m) (negsuc n) p q e = absurd (omega (arith, ints, e, no_less d n))
above d a b (negsuc m) (pos n) p q e = absurd (omega (arith, ints, e, no_less d m))
above d a b (negsuc m) (negsuc n) p q e = let s = same_sum d b a (suc m) (suc n) q p (omega (arith, ints, e)) in (ap negsuc (omega (arith, s.0)), sym s.1)

-- rests from 0 down, at a divisor below 0
below : (d a b : ℕ) (m n : ℤ) → a < suc d → b < suc d → m *ℤ negsuc d +ℤ neg_ℤ (pos a) ≡ n *ℤ negsuc d +ℤ neg_ℤ (pos b) → (m ≡ n) × (a ≡ b)
below d a b (pos m) (pos n) p q e = let s = same_sum (suc d) a b m n p q (omega (arith, ints, e)) in (ap pos s.0, s.1)
below d a b (pos m) (negsuc n) p q e = absurd (omega (arith, ints, e, no_less (suc d) n))
below d a b (negsuc m) (pos n) p q e = absurd (omega (arith, ints, e, no_less (suc d) m))
below d a b (negsuc m) (negsuc n) p q e = let s = same_sum (suc d) b a (suc m) (suc n) q p (omega (arith, ints, e)) in (ap negsuc (omega (arith, s.0)), sym s.1)

-- a remainder is its size, with the divisor's sign
size_above : (d : ℕ) (r : ℤ) → (r ≡ pos 0) ⊎ HaveSameSign r (pos d) → r ≡ pos (unsigned_abs r)
size_above d (pos a) h = refl
size_above d (negsuc a) (inl h) = cc
size_above d (negsuc a) (inr (inl h)) = absurd (omega (arith, ints, h.0))
size_above d (negsuc a) (inr (inr h)) = absurd (omega (arith, ints, h.1))

size_below : (d : ℕ) (r : ℤ) → (r ≡ pos 0) ⊎ HaveSameSign r (negsuc d) → r ≡ neg_ℤ (pos (unsigned_abs r))
size_below d (pos zero) h = refl
size_below d (pos (suc a)) (inl h) = cc
size_below d (pos (suc a)) (inr (inl h)) = absurd (omega (arith, ints, h.1))
size_below d (pos (suc a)) (inr (inr h)) = absurd (omega (arith, ints, h.0))
size_below d (negsuc a) h = refl

-- two pairs are one
one_pair : (x y q r q' r' : ℤ) → FloorDivides x y q r → FloorDivides x y q' r' → (q' ≡ q) × (r' ≡ r)
one_pair x (pos d) q r q' r' f g =
    let s = size_above d r f.sign in
    let t = size_above d r' g.sign in
    let p = above d (unsigned_abs r') (unsigned_abs r) q' q g.smaller f.smaller (ap (λ z. q' *ℤ pos d +ℤ z) (sym t) ∙ sym g.sum ∙ f.sum ∙ ap (λ z. q *ℤ pos d +ℤ z) s) in
    (p.0, t ∙ ap pos p.1 ∙ sym s)
one_pair x (negsuc d) q r q' r' f g =
    let s = size_below d r f.sign in
    let t = size_below d r' g.sign in
    let p = below d (unsigned_abs r') (unsigned_abs r) q' q g.smaller f.smaller (ap (λ z. q' *ℤ negsuc d +ℤ z) (sym t) ∙ sym g.sum ∙ f.sum ∙ ap (λ z. q *ℤ negsuc d +ℤ z) s) in
    (p.0, t ∙ ap (λ n. neg_ℤ (pos n)) p.1 ∙ sym s)

-- a remainder and a divisor have opposite signs or not
opposite_or_not : (r y : ℤ) → HaveOppositeSigns r y ⊎ (HaveOppositeSigns r y → ⊥)
opposite_or_not (pos zero) y = inr (λ h. elim h [ inl p ↦ omega (arith, ints, p.0) | inr p ↦ omega (arith, ints, p.0) ])
opposite_or_not (pos (suc a)) (pos b) = inr (λ h. elim h [ inl p ↦ omega (arith, ints, p.1) | inr p ↦ omega (arith, ints, p.0) ])
opposite_or_not (pos (suc a)) (negsuc b) = inl (inl (omega (arith, ints), omega (arith, ints)))
opposite_or_not (negsuc a) (pos zero) = inr (λ h. elim h [ inl p ↦ omega (arith, ints, p.0) | inr p ↦ omega (arith, ints, p.1) ])
opposite_or_not (negsuc a) (pos (suc b)) = inl (inr (omega (arith, ints), omega (arith, ints)))
opposite_or_not (negsuc a) (negsuc b) = inr (λ h. elim h [ inl p ↦ omega (arith, ints, p.0) | inr p ↦ omega (arith, ints, p.1) ])

-- a divisor other than 0 gives one quotient and one remainder
pub one_quotient : (x y : ℤ) → y ≢ pos 0 → HasOneQuotient x y
one_quotient x y n = elim (opposite_or_not (int_rem x y) y) [
  | inl h ↦ made _ _ (corrected x y (int_rem x y) n refl h)
  | inr h ↦ made _ _ (kept x y (int_rem x y) n refl h)
] where
  made : (q r : ℤ) → FloorDivides x y q r → HasOneQuotient x y
  made q r f = record { quotient = q; remainder = r; divides = f; only = λ q' r' g. one_pair x y q r q' r' f g }
