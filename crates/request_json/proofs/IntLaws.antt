-- Ints that texts spell.
use Rattle.std.proofs.Common.{◌≡◌, ℕ, ℤ, pos, ◌^◌, ◌<◌, ◌≤◌, Bool, true, false, List, [], ◌∷◌, length, drop, Some, None, Ok, Err, refl, sym, ap, ◌∙◌, subst, arith}
use Rattle.std.specs.Prelude.{◌&&◌, nat_le, nat_lt, neg_ℤ, FitsSigned, if◌then◌else◌}
use Rattle.std.specs.declared.result.Result.{Result}
use Rattle.std.specs.Result.{OkIff, result_ok}
use Rattle.std.specs.Int.{w128}
use Rattle.std.proofs.lemmas.Int.{to_z-of_z}
use mir.Val.{to_z, of_z}
use Rattle.std.specs.Char.{is_ascii_digit}
use Rattle.std.specs.List.{list_all}
use Rattle.std.specs.Str.{all_ascii_digits}
use Rattle.std.specs.Str.Parse.{digits_value, starts_with_minus, ParsesSigned}
use Rattle.std.proofs.lemmas.Bool.Decides.{nat_tests, Decides-eqb}
use Rattle.std.proofs.lemmas.Str.Parse.{IsNumeralModel, numerals_by_value, tells_all_ascii_digits, parse_signed_minus, parse_signed_digits}
use Rattle.request_json.specs.Arguments.{is_numeral, int_of_digits, int_behind_minus, int_of_text}

pub own : IsNumeralModel (λ ds. all_ascii_digits ds ≡ true) (digits_value 10)
own = numerals_by_value _ tells_all_ascii_digits

-- a text without a minus in front of it
abbrev pub digits_of : List ℕ → List ℕ
digits_of text = if starts_with_minus text then drop 1 text else text

both : (a b : Bool) → (a && b) ≡ true → (a ≡ true) × (b ≡ true)
both true b h = (refl, h)
both false b h = absurd cc

pub each : (a b : Bool) → a ≡ true → b ≡ true → (a && b) ≡ true
each a b p q = λ i. p i && q i

le_from : (a b : ℕ) → nat_le a b ≡ true → a ≤ b
le_from a b h = grind (arith, nat_tests)

pub le_test : (a b : ℕ) → a ≤ b → nat_le a b ≡ true
le_test a b h = grind (arith, nat_tests)

pub lt_from : (a b : ℕ) → nat_lt a b ≡ true → a < b
lt_from a b h = grind (arith, nat_tests)

pub lt_test : (a b : ℕ) → a < b → nat_lt a b ≡ true
lt_test a b h = grind (arith, nat_tests)

pub digits_are : (ds : List ℕ) → list_all is_ascii_digit ds ≡ all_ascii_digits ds
digits_are [] = refl
digits_are (d ∷ ds) = ap (λ b. is_ascii_digit d && b) (digits_are ds)

parts : (ds : List ℕ) → is_numeral ds ≡ true → (all_ascii_digits ds ≡ true) × (0 < length ds)
parts ds h =
    let all = both (nat_le 1 (length ds) && nat_le (length ds) 64) (list_all is_ascii_digit ds) h in
    let some : 1 ≤ length ds = le_from 1 (length ds) (both (nat_le 1 (length ds)) (nat_le (length ds) 64) all.0).0 in
    (sym (digits_are ds) ∙ all.1, omega arith)

-- a result that is Ok exactly where a test passes
decided : {E : Type 0} (r : Result ℤ E) (Q : Type 0) (b : Bool) (z : ℤ) → OkIff r Q z → (b ≡ true → Q) → (Q → b ≡ true) → result_ok r ≡ (if b then Some z else None)
decided (Ok n) Q b z h to from = ap Some h.1 ∙ sym (ap (λ (t : Bool). if t then Some z else None) (from h.0))
decided (Err e) Q b z h to from = by b refl
  where
    by : (t : Bool) → b ≡ t → None ≡ (if t then Some z else None)
    by true is = absurd (h (to is))
    by false is = refl

-- what `parse` makes of a text whose digits are as many as there may be
pub spelt : (E : Type 0) (text : List ℕ) (r : Result ℤ E) → is_numeral (digits_of text) ≡ true → ParsesSigned w128 10 text r → result_ok r ≡ int_of_text text
unfolding int_of_text
spelt E text r = by (starts_with_minus text) refl
  where
    by : (b : Bool) → starts_with_minus text ≡ b → is_numeral (if b then drop 1 text else text) ≡ true → ParsesSigned w128 10 text r → result_ok r ≡ (if b then int_behind_minus (drop 1 text) else int_of_digits text)
    by true is numeral h =
        let n = digits_value 10 (drop 1 text) in
        let known = parts (drop 1 text) numeral in
        decided r _ (is_numeral (drop 1 text) && nat_le n (2 ^ 127)) (neg_ℤ (pos n)) (parse_signed_minus own w128 text r h ((Decides-eqb _ 45).0 is))
        (λ t. (known.0, known.1, le_from n (2 ^ 127) (both (is_numeral (drop 1 text)) (nat_le n (2 ^ 127)) t).1))
        (λ q. each (is_numeral (drop 1 text)) (nat_le n (2 ^ 127)) numeral (le_test n (2 ^ 127) q.2))
    by false is numeral h =
        let n = digits_value 10 text in
        let known = parts text numeral in
        decided r _ (is_numeral text && nat_lt n (2 ^ 127)) (pos n) (parse_signed_digits own w128 text r h known.0)
        (λ t. (known.1, lt_from n (2 ^ 127) (both (is_numeral text) (nat_lt n (2 ^ 127)) t).1))
        (λ q. each (is_numeral text) (nat_lt n (2 ^ 127)) numeral (lt_test n (2 ^ 127) q.1))

-- an int that was read, as the code holds it
pub spelt_ok : (E : Type 0) (text : List ℕ) (n : ℤ) → is_numeral (digits_of text) ≡ true → ParsesSigned {E = E} w128 10 text (Ok n) → Some (to_z w128 (of_z w128 n)) ≡ int_of_text text
spelt_ok E text n numeral h = ap Some (to_z-of_z w128 n (subst (FitsSigned w128) (sym h.1) h.0.1)) ∙ spelt E text (Ok n) numeral h

-- any other text spells none
pub no_numeral : (text : List ℕ) → is_numeral (digits_of text) ≡ false → None ≡ int_of_text text
unfolding int_of_text
no_numeral text = by (starts_with_minus text)
  where
    fails : (b t : Bool) (z : ℤ) → b ≡ false → None ≡ (if b && t then Some z else None)
    fails b t z h = ap (λ (a : Bool). if a && t then Some z else None) (sym h)

    by : (b : Bool) → is_numeral (if b then drop 1 text else text) ≡ false → None ≡ (if b then int_behind_minus (drop 1 text) else int_of_digits text)
    by true h = fails (is_numeral (drop 1 text)) _ _ h
    by false h = fails (is_numeral text) _ _ h
