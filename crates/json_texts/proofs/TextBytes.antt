-- The bytes of a compact text: UTF-8, and no control character among them.
use Rattle.std.proofs.Common.{◌≡◌, ℕ, zero, suc, pos, negsuc, ◌^◌, ◌<◌, ◌≤◌, Bool, true, false, ◌&&◌, List, [], ◌∷◌, ◌++◌, decimal, refl, sym, ap, subst, arith, inl, inr}
use Rattle.std.specs.Prelude.{nat_le}
use Rattle.std.specs.List.{All, list_all}
use Rattle.std.specs.Str.{IsUtf8}
use Rattle.std.specs.Char.{digit_value}
use Rattle.std.specs.Str.Parse.{AllDigits}
use Rattle.std.proofs.lemmas.Bool.{and_parts, cases_lt, cases_eq}
use Rattle.std.proofs.lemmas.Bool.Decides.{nat_tests}
use Rattle.std.proofs.lemmas.Fmt.{IsAscii-decimal, decimal_is_IsNumeral}
use Rattle.std.proofs.lemmas.List.Elements.{All-append}
use Rattle.std.proofs.lemmas.Str.{IsUtf8-append, IsUtf8-from_ascii}
use Rattle.std.proofs.lemmas.Str.Parse.{digit_from_value}
use Rattle.json.specs.Print.{escape_byte, escape, quoted, token_text}
use Rattle.json.specs.Token as token
use Rattle.json.proofs.Printed.Strings.{escape_byte_plain}
use Rattle.json.proofs.Printed.Utf8.{IsUtf8-are_ascii, IsUtf8-quoted, IsUtf8-boolean}
use Rattle.serde_json.specs.Data.{Num, unsigned, negative, float, Data, null, boolean, number, string, array, object, Items, no_items, item, Members, no_members, member}
use Rattle.serde_json.specs.Written.{comma_if, number_text, compact_text, items_text, members_text}
use Rattle.json_texts.specs.PlainData.{IsWhole, IsPlain, ArePlain, HavePlain}
use Rattle.json_texts.specs.TextLaws.{IsVisible}

-- ---- UTF-8

pub ascii_utf8 : (x : ℕ) (xs : List ℕ) → IsUtf8 (x ∷ []) → IsUtf8 xs → IsUtf8 (x ∷ xs)
ascii_utf8 x xs one rest = IsUtf8-append (x ∷ []) xs one rest

comma_utf8 : (later : Bool) → IsUtf8 (comma_if later)
comma_utf8 true = IsUtf8-are_ascii (44 ∷ []) refl
comma_utf8 false = IsUtf8-are_ascii [] refl

number_utf8 : (n : Num) → IsWhole n → IsUtf8 (number_text n)
number_utf8 (unsigned n) whole = IsUtf8-from_ascii (decimal n) (IsAscii-decimal n whole)
number_utf8 (negative (pos n)) whole = absurd whole
number_utf8 (negative (negsuc n)) whole =
    ascii_utf8 45 (decimal (suc n)) (IsUtf8-are_ascii (45 ∷ []) refl) (IsUtf8-from_ascii (decimal (suc n)) (IsAscii-decimal (suc n) (omega (arith, whole))))
number_utf8 (float x) whole = absurd whole

mutual
  pub text_utf8 : (d : Data) → IsPlain d → IsUtf8 (compact_text d)
  text_utf8 null plain = IsUtf8-are_ascii (compact_text null) refl
  text_utf8 (boolean truth) plain = IsUtf8-boolean truth
  text_utf8 (number n) plain = number_utf8 n plain
  text_utf8 (string text) plain = IsUtf8-quoted text plain
  text_utf8 (array ds) plain = ascii_utf8 91 (items_text false ds) (IsUtf8-are_ascii (91 ∷ []) refl) (items_utf8 false ds plain)
  text_utf8 (object ms) plain = ascii_utf8 123 (members_text false ms) (IsUtf8-are_ascii (123 ∷ []) refl) (members_utf8 false ms plain.1)

  items_utf8 : (later : Bool) (ds : Items) → ArePlain ds → IsUtf8 (items_text later ds)
  items_utf8 later no_items plain = IsUtf8-are_ascii (93 ∷ []) refl
  items_utf8 later (item d ds) plain = IsUtf8-append (comma_if later) _ (comma_utf8 later) (IsUtf8-append (compact_text d) _ (text_utf8 d plain.0) (items_utf8 true ds plain.1))

  members_utf8 : (later : Bool) (ms : Members) → HavePlain ms → IsUtf8 (members_text later ms)
  members_utf8 later no_members plain = IsUtf8-are_ascii (125 ∷ []) refl
  members_utf8 later (member key d ms) plain =
      IsUtf8-append (comma_if later) _ (comma_utf8 later) (IsUtf8-append (quoted key) _ (IsUtf8-quoted key plain.0)
      (ascii_utf8 58 _ (IsUtf8-are_ascii (58 ∷ []) refl) (IsUtf8-append (compact_text d) _ (text_utf8 d plain.1) (members_utf8 true ms plain.2))))

-- ---- no control character

abbrev pub AreVisible : List ℕ → Type 0
AreVisible bytes = All IsVisible bytes

visible_then : (x : ℕ) (xs : List ℕ) → 32 ≤ x → AreVisible xs → AreVisible (x ∷ xs)
visible_then x xs high all zero d lt = high
visible_then x xs high all (suc k) d lt = all k d (omega arith)

-- bytes that are known pass a test that computes
tested : (xs : List ℕ) → list_all (nat_le 32) xs ≡ true → AreVisible xs
tested [] passes = λ k d lt. absurd (omega arith)
tested (x ∷ xs) passes =
    let both = and_parts (nat_le 32 x) (list_all (nat_le 32) xs) passes in
    let high : 32 ≤ x = from_test both.0 in
    visible_then x xs high (tested xs both.1)
  where
    from_test : nat_le 32 x ≡ true → 32 ≤ x
    from_test h = grind (arith, nat_tests)

-- the escapes of the bytes below n
abbrev low_escapes : ℕ → Bool
low_escapes zero = true
low_escapes (suc n) = list_all (nat_le 32) (escape_byte n) && low_escapes n

low_escape : (n : ℕ) → low_escapes n ≡ true → (x : ℕ) → x < n → AreVisible (escape_byte x)
low_escape zero passes x lt = absurd (omega arith)
low_escape (suc n) passes x lt =
    let both = and_parts (list_all (nat_le 32) (escape_byte n)) (low_escapes n) passes in
    elim (cases_eq x n) [ inl same ↦ subst (λ y. AreVisible (escape_byte y)) (sym same) (tested (escape_byte n) both.0) | inr apart ↦ low_escape n both.1 x (omega arith) ]

low_escapes_pass : low_escapes 128 ≡ true
unfolding escape_byte
low_escapes_pass = refl

escape_visible : (x : ℕ) → AreVisible (escape_byte x)
escape_visible x = elim (cases_lt x 128) [
  | inl low ↦ low_escape 128 low_escapes_pass x low
  | inr high ↦ subst AreVisible (sym (escape_byte_plain x (λ e. omega arith) (λ e. omega arith) (omega arith))) (visible_then x [] (omega arith) (tested [] refl))
]

escapes_visible : (text : List ℕ) → AreVisible (escape text)
escapes_visible [] = tested [] refl
escapes_visible (x ∷ xs) = All-append IsVisible (escape_byte x) (escape xs) (escape_visible x) (escapes_visible xs)

quoted_visible : (text : List ℕ) → AreVisible (quoted text)
quoted_visible text = visible_then 34 _ (omega arith) (All-append IsVisible (escape text) (34 ∷ []) (escapes_visible text) (tested (34 ∷ []) refl))

digit_visible : (x : ℕ) → digit_value x < 10 → 32 ≤ x
digit_visible x digit = omega (arith, (digit_from_value x digit).0)

digits_visible : (ds : List ℕ) → AllDigits 10 ds → AreVisible ds
digits_visible [] digits = tested [] refl
digits_visible (d ∷ ds) digits = visible_then d ds (digit_visible d digits.0) (digits_visible ds digits.1)

number_visible : (n : Num) → IsWhole n → AreVisible (number_text n)
number_visible (unsigned n) whole = digits_visible (decimal n) (decimal_is_IsNumeral n whole).0.1
number_visible (negative (pos n)) whole = absurd whole
number_visible (negative (negsuc n)) whole = visible_then 45 (decimal (suc n)) (omega arith) (digits_visible (decimal (suc n)) (decimal_is_IsNumeral (suc n) (omega (arith, whole))).0.1)
number_visible (float x) whole = absurd whole

comma_visible : (later : Bool) → AreVisible (comma_if later)
comma_visible true = tested (44 ∷ []) refl
comma_visible false = tested [] refl

truth_visible : (truth : Bool) → AreVisible (token_text (token.boolean truth))
truth_visible true = tested (token_text (token.boolean true)) refl
truth_visible false = tested (token_text (token.boolean false)) refl

mutual
  pub text_visible : (d : Data) → IsPlain d → AreVisible (compact_text d)
  text_visible null plain = tested (compact_text null) refl
  text_visible (boolean truth) plain = truth_visible truth
  text_visible (number n) plain = number_visible n plain
  text_visible (string text) plain = quoted_visible text
  text_visible (array ds) plain = visible_then 91 _ (omega arith) (items_visible false ds plain)
  text_visible (object ms) plain = visible_then 123 _ (omega arith) (members_visible false ms plain.1)

  items_visible : (later : Bool) (ds : Items) → ArePlain ds → AreVisible (items_text later ds)
  items_visible later no_items plain = tested (93 ∷ []) refl
  items_visible later (item d ds) plain =
      All-append IsVisible (comma_if later) _ (comma_visible later) (All-append IsVisible (compact_text d) _ (text_visible d plain.0) (items_visible true ds plain.1))

  members_visible : (later : Bool) (ms : Members) → HavePlain ms → AreVisible (members_text later ms)
  members_visible later no_members plain = tested (125 ∷ []) refl
  members_visible later (member key d ms) plain =
      All-append IsVisible (comma_if later) _ (comma_visible later) (All-append IsVisible (quoted key) _ (quoted_visible key)
      (visible_then 58 _ (omega arith) (All-append IsVisible (compact_text d) _ (text_visible d plain.1) (members_visible true ms plain.2))))
