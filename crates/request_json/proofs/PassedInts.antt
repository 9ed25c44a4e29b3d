-- An int that is passed is plain data, and is read back; so is a result plain data.
use Rattle.std.proofs.Common.{◌≡◌, ℕ, suc, ℤ, pos, negsuc, ◌^◌, ◌<◌, ◌≤◌, ◌||◌, Bool, true, false, List, [], ◌∷◌, length, drop, Some, None, decimal, refl, ap, ap₂, ◌∙◌, subst, arith}
use Rattle.std.specs.Prelude.{◌==◌, ◌&&◌, nat_le, nat_lt, neg_ℤ, FitsSigned, if◌then◌else◌}
use Rattle.std.specs.Int.{w128}
use Rattle.std.specs.Char.{digit_value}
use Rattle.std.specs.Fmt.{signed_decimal}
use Rattle.std.specs.Str.{IsUtf8}
use Rattle.std.specs.Str.Parse.{AllDigits, digits_value, starts_with_minus}
use Rattle.std.proofs.lemmas.Bool.{ne_eqb}
use Rattle.std.proofs.lemmas.Bool.Decides.{nat_tests}
use Rattle.std.proofs.lemmas.Fmt.{decimal_is_IsNumeral_wide, length-decimal-le_wide, IsAscii-decimal_wide}
use Rattle.std.proofs.lemmas.Str.{IsUtf8-append, IsUtf8-from_ascii}
use Rattle.json.proofs.Printed.Utf8.{IsUtf8-are_ascii}
use Rattle.serde_json.specs.Find.{of_integer}
use Rattle.json_texts.specs.PlainData.{IsWhole, IsPlain}
use Rattle.request_json.specs.Arguments.{is_numeral, int_of_digits, int_behind_minus, int_of_text, int_of}
use Rattle.request_json.specs.ReplyLines.{is_short, int_data}
use Rattle.request_json.specs.RequestTexts.{is_natural, passed_int}
use Rattle.request_json.proofs.FloatLaws.{number_if}
use Rattle.request_json.proofs.IntLaws.{own, digits_are, each, le_test, lt_test}

begins_no_minus : (ds : List ℕ) → AllDigits 10 ds → starts_with_minus ds ≡ false
begins_no_minus [] digits = refl
begins_no_minus (d ∷ ds) digits = ne_eqb d 45 (λ same. let ten : digit_value 45 < 10 = subst (λ x. digit_value x < 10) same digits.0 in omega arith)

-- the digits of a number up to 2^127
module _ (n : ℕ) (most : n ≤ 2 ^ 127) where
  wide : n < 10 ^ 64
  wide = omega (arith, most)

  digits : AllDigits 10 (decimal n)
  digits = (decimal_is_IsNumeral_wide n wide).0.1

  number : digits_value 10 (decimal n) ≡ n
  number = (decimal_is_IsNumeral_wide n wide).1

  numeral : is_numeral (decimal n) ≡ true
  numeral =
      let some : 1 ≤ length (decimal n) = omega (arith, (decimal_is_IsNumeral_wide n wide).0.0) in
      let few : length (decimal n) ≤ 64 = length-decimal-le_wide 64 n (omega arith) wide wide in
      each _ _ (each _ _ (le_test 1 (length (decimal n)) some) (le_test (length (decimal n)) 64 few)) (digits_are (decimal n) ∙ own.from (decimal n) digits)

  digits_back : n < 2 ^ 127 → int_of_text (decimal n) ≡ Some (pos n)
  unfolding int_of_text
  digits_back less =
      ap (λ b. if b then int_behind_minus (drop 1 (decimal n)) else int_of_digits (decimal n)) (begins_no_minus (decimal n) digits)
      ∙ ap₂ (λ b m. if b && nat_lt m (2 ^ 127) then Some (pos m) else None) numeral number
      ∙ ap (λ b. if b then Some (pos n) else None) (lt_test n (2 ^ 127) less)

  minus_back : int_of_text (45 ∷ decimal n) ≡ Some (neg_ℤ (pos n))
  unfolding int_of_text
  minus_back =
      ap₂ (λ b m. if b && nat_le m (2 ^ 127) then Some (neg_ℤ (pos m)) else None) numeral number
      ∙ ap (λ b. if b then Some (neg_ℤ (pos n)) else None) (le_test n (2 ^ 127) most)

  digits_utf8 : IsUtf8 (decimal n)
  digits_utf8 = IsUtf8-from_ascii (decimal n) (IsAscii-decimal_wide n wide)

text_back : (z : ℤ) → FitsSigned w128 z → int_of_text (signed_decimal z) ≡ Some z
text_back (pos n) fits = digits_back n (omega (arith, fits.sfits)) (omega (arith, fits.sfits))
text_back (negsuc n) fits = minus_back (suc n) (omega (arith, fits.sfits))

text_utf8 : (z : ℤ) → FitsSigned w128 z → IsUtf8 (signed_decimal z)
text_utf8 (pos n) fits = digits_utf8 n (omega (arith, fits.sfits))
text_utf8 (negsuc n) fits = IsUtf8-append (45 ∷ []) (decimal (suc n)) (IsUtf8-are_ascii (45 ∷ []) refl) (digits_utf8 (suc n) (omega (arith, fits.sfits)))

-- ---- a number, or a text of digits

either_back : (z : ℤ) (b : Bool) → FitsSigned w128 z → int_of (number_if b z) ≡ Some z
either_back (pos n) true fits = refl
either_back (negsuc n) true fits = refl
either_back z false fits = text_back z fits

pub passed_back : (z : ℤ) → FitsSigned w128 z → int_of (passed_int z) ≡ Some z
passed_back z fits = either_back z (is_short z || is_natural z) fits

either_plain : (z : ℤ) (b : Bool) → FitsSigned w128 z → (b ≡ true → IsWhole (of_integer z)) → IsPlain (number_if b z)
either_plain z true fits whole = whole refl
either_plain z false fits whole = text_utf8 z fits

passed_whole : (z : ℤ) → (is_short z || is_natural z) ≡ true → IsWhole (of_integer z)
passed_whole (pos n) h = grind (arith, nat_tests)
passed_whole (negsuc n) h = grind (arith, nat_tests)

short_whole : (z : ℤ) → is_short z ≡ true → IsWhole (of_integer z)
short_whole (pos n) h = let less : n < 2 ^ 63 = grind (arith, nat_tests) in omega (arith, less)
short_whole (negsuc n) h = grind (arith, nat_tests)

pub passed_plain : (z : ℤ) → FitsSigned w128 z → IsPlain (passed_int z)
passed_plain z fits = either_plain z (is_short z || is_natural z) fits (passed_whole z)

pub int_plain : (z : ℤ) → FitsSigned w128 z → IsPlain (int_data z)
int_plain z fits = either_plain z (is_short z) fits (short_whole z)
