-- A whole number has no more digits than its numeral, and 64 bits.
use Rattle.std.proofs.Common.{◌≡◌, ℕ, zero, suc, pos, negsuc, ◌+◌, ◌-◌, ◌^◌, ◌<◌, ◌≤◌, Bool, true, false, ◌==◌, ◌&&◌, cond, not, List, [], ◌∷◌, ◌++◌, length, take, drop, Some, None, decimal, refl, sym, ap, ap₂, ◌∙◌, subst, arith, append-nil, if◌then◌else◌}
use Rattle.std.specs.Prelude.{nat_lt, nat_le, neg_ℤ, slice_index, Float}
use Rattle.std.specs.List.{prefix_len}
use Rattle.std.specs.Char.{is_ascii_digit, digit_value}
use Rattle.std.specs.Float.{binary64, float_is_finite}
use Rattle.std.specs.Float.Numeral.{Parts, minus, scan_numeral, numeral_digits, nearest_float}
use Rattle.std.specs.Str.Parse.{AllDigits, digits_value}
use Rattle.std.proofs.lemmas.Bool.{and_parts, true≢false, not-true}
use Rattle.std.proofs.lemmas.Bool.Decides.{nat_tests}
use Rattle.std.proofs.lemmas.Fmt.{length-decimal-le_wide}
use Rattle.std.proofs.lemmas.Int.Digits.{digits_value-lt}
use Rattle.std.proofs.lemmas.List.{length-take}
use Rattle.std.proofs.lemmas.Option.{same_Some, none-some}
use Rattle.serde_json.specs.Data.{Num, unsigned, negative, float}
use Rattle.serde_json.specs.Read.{is_integer, float_of, number_from, number_of}
use Rattle.serde_json.specs.Written.{number_text}
use Rattle.request_json.proofs.IntLaws.{lt_test, lt_from}

-- it is a float, or fits 64 bits, with a sign or without
abbrev pub IsTight : Num → Type 0
IsTight (unsigned n) = n < 2 ^ 64
IsTight (negative (pos n)) = ⊥
IsTight (negative (negsuc n)) = nat_lt n (2 ^ 63) ≡ true
IsTight (float x) = Unit {0}

abbrev Sized : ℕ → Num → Type 0
Sized k n = (length (number_text n) ≤ k) × IsTight n

-- ---- the digits at the front of a numeral

pub digit_small : (x : ℕ) → is_ascii_digit x ≡ true → digit_value x < 10
digit_small x h = grind (arith, nat_tests)

front_digits : (t : List ℕ) → AllDigits 10 (take (prefix_len is_ascii_digit t) t)
front_digits [] = tt
front_digits (x ∷ xs) = by (is_ascii_digit x) (digit_small x) (front_digits xs)
  where
    by : (b : Bool) → (b ≡ true → digit_value x < 10) → AllDigits 10 (take (prefix_len is_ascii_digit xs) xs) → AllDigits 10 (take (cond b (1 + prefix_len is_ascii_digit xs) 0) (x ∷ xs))
    by true small more =
        let next : suc (prefix_len is_ascii_digit xs) ≡ 1 + prefix_len is_ascii_digit xs = omega arith in
        subst (λ k. AllDigits 10 (take k (x ∷ xs))) next (small refl, more)
    by false small more = tt

whole_is : (t : List ℕ) → (scan_numeral t).whole ≡ take (prefix_len is_ascii_digit t) t
unfolding scan_numeral
whole_is t = let same : 0 + prefix_len is_ascii_digit t - 0 ≡ prefix_len is_ascii_digit t = omega arith in ap (λ k. take k t) same

none_where : (b : Bool) (xs : List ℕ) → b ≡ false → (if b then xs else []) ≡ []
none_where true xs is = absurd (true≢false is)
none_where false xs is = refl

fraction_is : (t : List ℕ) → (scan_numeral t).point ≡ false → (scan_numeral t).fraction ≡ []
unfolding scan_numeral
fraction_is t is = none_where _ _ is

value_is : (t : List ℕ) → (scan_numeral t).point ≡ false → numeral_digits (scan_numeral t) ≡ digits_value 10 (take (prefix_len is_ascii_digit t) t)
value_is t is = ap₂ (λ (w f : List ℕ). digits_value 10 (w ++ f)) (whole_is t) (fraction_is t is) ∙ ap (digits_value 10) (append-nil (take (prefix_len is_ascii_digit t) t))

digits_short : (t : List ℕ) → is_integer (scan_numeral t) ≡ true → numeral_digits (scan_numeral t) < 2 ^ 64 → length (decimal (numeral_digits (scan_numeral t))) ≤ length t
digits_short t is small =
    let p = scan_numeral t in
    let front = take (prefix_len is_ascii_digit t) t in
    let both = and_parts (nat_lt 0 (length p.whole) && not p.point) (length p.exponent == 0) is in
    let parts = and_parts (nat_lt 0 (length p.whole)) (not p.point) both.0 in
    let value = value_is t (not-true p.point parts.1) in
    let some : 1 ≤ length front = omega (arith, lt_from 0 (length p.whole) parts.0, ap length (whole_is t)) in
    let bound : numeral_digits p < 10 ^ length front = subst (λ n. n < 10 ^ length front) (sym value) (digits_value-lt 10 front (front_digits t)) in
    omega (arith, length-decimal-le_wide (length front) (numeral_digits p) some bound (omega (arith, small)), length-take (prefix_len is_ascii_digit t) t)

-- ---- numbers

float_sized : (k : ℕ) (b : Bool) (x : Float) (n : Num) → (if b then Some (float x) else None) ≡ Some n → Sized k n
float_sized k true x n is = subst (Sized k) (same_Some (float x) n is) (omega arith, tt)
float_sized k false x n is = absurd (none-some n is)

natural_sized : (t : List ℕ) (n : Num) → number_from false (scan_numeral t) ≡ Some n → Sized (length t) n
natural_sized t n = by (is_integer p && nat_lt (numeral_digits p) (2 ^ 64)) refl
  where
    p : Parts
    p = scan_numeral t

    by : (b : Bool) → (is_integer p && nat_lt (numeral_digits p) (2 ^ 64)) ≡ b → (if b then Some (unsigned (numeral_digits p)) else float_of false p) ≡ Some n → Sized (length t) n
    by true fits is =
        let both = and_parts (is_integer p) (nat_lt (numeral_digits p) (2 ^ 64)) fits in
        let small = lt_from (numeral_digits p) (2 ^ 64) both.1 in
        subst (Sized (length t)) (same_Some (unsigned (numeral_digits p)) n is) (digits_short t both.0 small, small)
    by false fits is = float_sized (length t) (float_is_finite (nearest_float binary64 false p)) (nearest_float binary64 false p) n is

minus_sized : (k m : ℕ) → 0 < m → m ≤ 2 ^ 63 → length (decimal m) ≤ k → Sized (suc k) (negative (neg_ℤ (pos m)))
minus_sized k zero some most short = absurd (omega (arith, some))
minus_sized k (suc m) some most short = (omega (arith, short), lt_test m (2 ^ 63) (omega (arith, most)))

most_from : (m : ℕ) → nat_le m (2 ^ 63) ≡ true → m ≤ 2 ^ 63
most_from m h = grind (arith, nat_tests)

negative_sized : (t : List ℕ) (n : Num) → number_from true (scan_numeral t) ≡ Some n → Sized (suc (length t)) n
negative_sized t n = by (is_integer p && nat_lt 0 (numeral_digits p) && nat_le (numeral_digits p) (2 ^ 63)) refl
  where
    p : Parts
    p = scan_numeral t

    by : (b : Bool) → (is_integer p && nat_lt 0 (numeral_digits p) && nat_le (numeral_digits p) (2 ^ 63)) ≡ b
        → (if b then Some (negative (neg_ℤ (pos (numeral_digits p)))) else float_of true p) ≡ Some n → Sized (suc (length t)) n
    by true fits is =
        let both = and_parts (is_integer p && nat_lt 0 (numeral_digits p)) (nat_le (numeral_digits p) (2 ^ 63)) fits in
        let whole = and_parts (is_integer p) (nat_lt 0 (numeral_digits p)) both.0 in
        let most = most_from (numeral_digits p) both.1 in
        subst (Sized (suc (length t))) (same_Some (negative (neg_ℤ (pos (numeral_digits p)))) n is)
        (minus_sized (length t) (numeral_digits p) (lt_from 0 (numeral_digits p) whole.1) most (digits_short t whole.0 (omega (arith, most))))
    by false fits is = float_sized (suc (length t)) (float_is_finite (nearest_float binary64 true p)) (nearest_float binary64 true p) n is

signed_sized : (s : List ℕ) (n : Num) → (slice_index s 0 == minus) ≡ true → number_from true (scan_numeral (drop 1 s)) ≡ Some n → Sized (length s) n
signed_sized [] n here is = absurd (true≢false (sym here))
signed_sized (x ∷ xs) n here is = negative_sized xs n is

pub number_sized : (s : List ℕ) (n : Num) → number_of s ≡ Some n → (length (number_text n) ≤ length s) × IsTight n
unfolding number_of
number_sized s n = by (slice_index s 0 == minus) refl
  where
    by : (b : Bool) → (slice_index s 0 == minus) ≡ b → (if b then number_from true (scan_numeral (drop 1 s)) else number_from false (scan_numeral s)) ≡ Some n → Sized (length s) n
    by true here is = signed_sized s n here is
    by false here is = natural_sized s n is
