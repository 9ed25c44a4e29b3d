-- Numbers that texts spell.
use Rattle.std.proofs.Common.{◌≡◌, ℕ, ◌^◌, ◌<◌, ◌≤◌, Bool, true, false, List, [], ◌∷◌, length, Some, None, Ok, Err, refl, sym, ap, ◌∙◌, arith}
use Rattle.std.specs.Prelude.{◌&&◌, nat_le, nat_lt, if◌then◌else◌}
use Rattle.std.specs.declared.result.Result.{Result}
use Rattle.std.specs.Result.{OkIff, result_ok}
use Rattle.std.specs.Char.{is_ascii_digit}
use Rattle.std.specs.List.{list_all}
use Rattle.std.specs.Str.{all_ascii_digits}
use Rattle.std.specs.Str.Parse.{digits_value, ParsesUnsigned}
use Rattle.std.proofs.lemmas.Bool.Decides.{nat_tests}
use Rattle.std.proofs.lemmas.Str.Parse.{IsNumeralModel, numerals_by_value, tells_all_ascii_digits, parse_digits}
use Rattle.clap.proofs.WalkLemmas.{both}
use Rattle.command_words.specs.Numbers.{is_numeral, number_of}

own : IsNumeralModel (λ ds. all_ascii_digits ds ≡ true) (digits_value 10)
own = numerals_by_value _ tells_all_ascii_digits

lt_from : (a b : ℕ) → nat_lt a b ≡ true → a < b
lt_from a b h = grind (arith, nat_tests)

lt_test : (a b : ℕ) → a < b → nat_lt a b ≡ true
lt_test a b h = grind (arith, nat_tests)

le_from : (a b : ℕ) → nat_le a b ≡ true → a ≤ b
le_from a b h = grind (arith, nat_tests)

digits_are : (ds : List ℕ) → list_all is_ascii_digit ds ≡ all_ascii_digits ds
digits_are [] = refl
digits_are (d ∷ ds) = ap (λ b. is_ascii_digit d && b) (digits_are ds)

parts : (ds : List ℕ) → is_numeral ds ≡ true → (all_ascii_digits ds ≡ true) × (0 < length ds)
parts ds h =
    let all = both (nat_le 1 (length ds) && nat_le (length ds) 20) (list_all is_ascii_digit ds) h in
    let some : 1 ≤ length ds = le_from 1 (length ds) (both (nat_le 1 (length ds)) (nat_le (length ds) 20) all.0).0 in
    (sym (digits_are ds) ∙ all.1, omega arith)

-- a result that is Ok exactly where a test passes
decided : {E : Type 0} (r : Result ℕ E) (Q : Type 0) (b : Bool) (z : ℕ) → OkIff r Q z → (b ≡ true → Q) → (Q → b ≡ true) → result_ok r ≡ (if b then Some z else None)
decided (Ok n) Q b z h to from = ap Some h.1 ∙ sym (ap (λ (t : Bool). if t then Some z else None) (from h.0))
decided (Err e) Q b z h to from = by b refl
  where
    by : (t : Bool) → b ≡ t → None ≡ (if t then Some z else None)
    by true is = absurd (h (to is))
    by false is = refl

-- what `parse` makes of a numeral
pub spelt : (E : Type 0) (text : List ℕ) (r : Result ℕ E) → is_numeral text ≡ true → ParsesUnsigned 64 10 text r → result_ok r ≡ number_of text
unfolding number_of
spelt E text r numeral h =
    let n = digits_value 10 text in
    let known = parts text numeral in
    decided r _ (is_numeral text && nat_lt n (2 ^ 64)) n (parse_digits own 64 text r h known.0)
    (λ t. (known.1, lt_from n (2 ^ 64) (both (is_numeral text) (nat_lt n (2 ^ 64)) t).1))
    (λ q. λ i. numeral i && lt_test n (2 ^ 64) q.1 i)

-- any other text spells none
pub no_numeral : (text : List ℕ) → is_numeral text ≡ false → None ≡ number_of text
unfolding number_of
no_numeral text h = ap (λ (a : Bool). if a && nat_lt (digits_value 10 text) (2 ^ 64) then Some (digits_value 10 text) else None) (sym h)
