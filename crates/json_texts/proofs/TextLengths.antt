-- How long compact texts of strings and numbers are at most.
use Rattle.std.proofs.Common.{◌≡◌, ℕ, ℤ, pos, negsuc, suc, ◌+◌, ◌*◌, ◌^◌, ◌<◌, ◌≤◌, ◌==◌, ◌||◌, Bool, true, false, cond, List, [], ◌∷◌, ◌++◌, length, decimal, refl, ap, ap₂, ◌∙◌, arith, length-append}
use Rattle.std.specs.Prelude.{nat_lt, ◌/◌, ◌%◌}
use Rattle.std.specs.Fmt.{signed_decimal}
use Rattle.std.specs.Char.{digit_value, digit_char}
use Rattle.std.specs.Str.Parse.{AllDigits}
use Rattle.std.proofs.lemmas.Str.Parse.{digit_from_value}
use Rattle.std.proofs.lemmas.Fmt.{decimal_is_IsNumeral_wide, length-decimal-le_wide}
use Rattle.json.specs.Print.{escape_letter, escape_byte, escape, quoted}
use Rattle.json.proofs.Printed.Strings.{escape_byte_plain}

-- a byte has at most the six of its longest escape
escape_short : (x : ℕ) → length (escape_byte x) ≤ 6
unfolding escape_byte
escape_short x = by (nat_lt 0 (escape_letter x)) (nat_lt x 32)
  where
    by : (letter low : Bool) → length (cond letter (92 ∷ escape_letter x ∷ []) (cond low (92 ∷ 117 ∷ 48 ∷ 48 ∷ digit_char (x / 16) ∷ digit_char (x % 16) ∷ []) (x ∷ []))) ≤ 6
    by true low = omega arith
    by false true = omega arith
    by false false = omega arith

escapes_short : (text : List ℕ) → length (escape text) ≤ 6 * length text
escapes_short [] = omega arith
escapes_short (x ∷ xs) = omega (arith, length-append (escape_byte x) (escape xs), escape_short x, escapes_short xs)

pub quoted_short : (text : List ℕ) → length (quoted text) ≤ 2 + 6 * length text
quoted_short text = omega (arith, length-append (escape text) (34 ∷ []), escapes_short text)

-- ---- digits have no escapes

digits_unescaped : (ds : List ℕ) → AllDigits 10 ds → escape ds ≡ ds
digits_unescaped [] digits = refl
digits_unescaped (d ∷ ds) digits =
    let range = digit_from_value d digits.0 in
    ap₂ (λ xs ys. xs ++ ys) (escape_byte_plain d (λ e. omega (arith, range.0)) (λ e. omega (arith, range.1)) (omega (arith, range.0))) (digits_unescaped ds digits.1)

pub decimal_short : (n : ℕ) → n ≤ 2 ^ 127 → length (decimal n) ≤ 39
decimal_short n most = length-decimal-le_wide 39 n (omega arith) (omega (arith, most)) (omega (arith, most))

decimal_quoted : (n : ℕ) → n ≤ 2 ^ 127 → length (escape (decimal n)) ≤ 39
decimal_quoted n most =
    let same = ap length (digits_unescaped (decimal n) (decimal_is_IsNumeral_wide n (omega (arith, most))).0.1) in
    omega (arith, decimal_short n most, same)

-- the digits of an int, in quotes
pub int_quoted : (z : ℤ) → (n : ℕ) → n ≤ 2 ^ 127 → signed_decimal z ≡ decimal n → length (quoted (signed_decimal z)) ≤ 42
int_quoted z n most is = omega (arith, length-append (escape (signed_decimal z)) (34 ∷ []), ap (λ s. length (escape s)) is, decimal_quoted n most)

pub minus_quoted : (n : ℕ) → n ≤ 2 ^ 127 → length (quoted (45 ∷ decimal n)) ≤ 42
unfolding escape_byte
minus_quoted n most = omega (arith, length-append (escape (decimal n)) (34 ∷ []), decimal_quoted n most)
