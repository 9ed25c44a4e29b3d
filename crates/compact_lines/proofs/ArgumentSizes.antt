-- An argument is passed in no more bytes than the line passes it in.
use Rattle.std.proofs.Common.{◌≡◌, ℕ, zero, suc, ℤ, pos, negsuc, ◌+◌, ◌^◌, ◌<◌, ◌≤◌, Bool, true, false, true≢false, ◌&&◌, ◌||◌, List, [], ◌∷◌, ◌++◌, length, drop, Option, Some, None, decimal, refl, sym, ap, ap₂, ◌∙◌, subst, arith, length-append, if◌then◌else◌}
use Rattle.std.specs.Prelude.{nat_lt, nat_le, neg_ℤ, is_some}
use Rattle.std.specs.Char.{is_ascii_digit}
use Rattle.std.specs.Fmt.{signed_decimal}
use Rattle.std.specs.List.{list_all}
use Rattle.std.specs.Str.{IsUtf8, chars, encode_utf8_all}
use Rattle.std.specs.Str.Parse.{AllDigits, digits_value, starts_with_minus}
use Rattle.std.proofs.lemmas.Bool.{and_parts}
use Rattle.std.proofs.lemmas.Bool.Decides.{nat_tests}
use Rattle.std.proofs.lemmas.Fmt.{length-decimal-le_wide, decimal_is_IsNumeral_wide}
use Rattle.std.proofs.lemmas.Int.Digits.{digits_value-lt}
use Rattle.std.proofs.lemmas.Option.{same_Some, none-some}
use Rattle.std.proofs.lemmas.Str.{encodes-chars}
use Rattle.std.proofs.lemmas.Str.Parse.{digit_from_value}
use Rattle.json.specs.Print.{escape_byte, escape, quoted}
use Rattle.json.proofs.Printed.Strings.{escape_byte_plain}
use Rattle.serde_json.specs.Data.{Num, unsigned, negative, float, Data, null, boolean, number, string, array, object, Items, no_items, item}
use Rattle.serde_json.specs.Find.{as_null, as_bool, as_str, as_array, as_integer}
use Rattle.serde_json.specs.Written.{comma_if, compact_text, items_text}
use Rattle.py_tree.specs.PlainTypes.{PlainTy, TInt, TBool, TStr, TNil, TList, TOptional, TEntity, PlainWritten, type_of}
use Rattle.py_tree.specs.PlainProgram.{PlainParam}
use Rattle.sf_value.specs.declared.value.Ref.{Ref}
use Rattle.sf_value.specs.declared.value.Value.{Value}
use Rattle.sf_value.specs.declared.value.Value.TheVariants as value
use Rattle.program_meaning.specs.ClassTables.{Source}
use Rattle.program_meaning.proofs.TableFacts.{map_found}
use Rattle.request_json.specs.Arguments.{◌>>?◌, is_numeral, int_of_digits, int_behind_minus, int_of_text, int_of, each_of, class_named, value_of, arg_of, args_of}
use Rattle.request_json.specs.ReplyLines.{is_short}
use Rattle.request_json.specs.RequestTexts.{is_natural, passed_int, passed_data, passed_items}
use Rattle.request_json.proofs.FloatLaws.{number_if}
use Rattle.request_json.proofs.LineData.{IsSound, AreSound}
use Rattle.request_json.proofs.IntLaws.{lt_test}
use Rattle.request_json.proofs.PlainValues.{int_is, bool_is, str_is, nil_is, list_is, entity_is}
use Rattle.request_json.proofs.RequestFits.{then_some, where_true}
use Rattle.compact_lines.proofs.NumberSizes.{IsTight, digit_small}
use Rattle.compact_lines.proofs.ReadSizes.{IsTightData, AreTight}

-- the text of these data is no longer than that of those
abbrev NoLonger : Data → Data → Type 0
NoLonger d e = length (compact_text d) ≤ length (compact_text e)

-- ---- ints: an int has few digits where a numeral spells it

-- no escape is shorter than its byte
escape_byte_some : (x : ℕ) → 1 ≤ length (escape_byte x)
unfolding escape_byte
escape_byte_some x = grind arith

escape_grows : (text : List ℕ) → length text ≤ length (escape text)
escape_grows [] = omega arith
escape_grows (x ∷ xs) = omega (arith, length-append (escape_byte x) (escape xs), escape_byte_some x, escape_grows xs)

quoted_grows : (text : List ℕ) → 2 + length text ≤ length (quoted text)
quoted_grows text = omega (arith, length-append (escape text) (34 ∷ []), escape_grows text)

-- digits have no escapes
digits_unescaped : (ds : List ℕ) → AllDigits 10 ds → escape ds ≡ ds
digits_unescaped [] digits = refl
digits_unescaped (d ∷ ds) digits =
    let range = digit_from_value d digits.0 in
    ap₂ (λ (xs ys : List ℕ). xs ++ ys) (escape_byte_plain d (λ e. omega (arith, range.0)) (λ e. omega (arith, range.1)) (omega (arith, range.0))) (digits_unescaped ds digits.1)

decimal_unescaped : (n : ℕ) → n < 10 ^ 64 → length (escape (decimal n)) ≡ length (decimal n)
decimal_unescaped n less = ap length (digits_unescaped (decimal n) (decimal_is_IsNumeral_wide n less).0.1)

-- an int whose digits take so many bytes, and a text of them has no escape
record IsSpelt (k : ℕ) (z : ℤ) : Type 0 where
  few : length (signed_decimal z) ≤ k
  plain : length (escape (signed_decimal z)) ≡ length (signed_decimal z)

-- it is passed in two bytes more at most, and as a number in no more
passed_spelt : (k : ℕ) (z : ℤ) (b : Bool) → IsSpelt k z → length (compact_text (number_if b z)) ≤ 2 + k
passed_spelt k (pos n) true spelt = omega (arith, spelt.few)
passed_spelt k (negsuc n) true spelt = omega (arith, spelt.few)
passed_spelt k z false spelt = omega (arith, spelt.few, spelt.plain, length-append (escape (signed_decimal z)) (34 ∷ []))

all_digits : (ds : List ℕ) → list_all is_ascii_digit ds ≡ true → AllDigits 10 ds
all_digits [] all = tt
all_digits (d ∷ ds) all = let both = and_parts (is_ascii_digit d) (list_all is_ascii_digit ds) all in (digit_small d both.0, all_digits ds both.1)

-- the value of a numeral has no more digits
numeral_short : (ds : List ℕ) → is_numeral ds ≡ true → digits_value 10 ds ≤ 2 ^ 127 → length (decimal (digits_value 10 ds)) ≤ length ds
numeral_short ds numeral most =
    let both = and_parts (nat_le 1 (length ds) && nat_le (length ds) 64) (list_all is_ascii_digit ds) numeral in
    let some : 1 ≤ length ds = first (and_parts (nat_le 1 (length ds)) (nat_le (length ds) 64) both.0).0 in
    length-decimal-le_wide (length ds) (digits_value 10 ds) some (digits_value-lt 10 ds (all_digits ds both.1)) (omega (arith, most))
  where
    first : nat_le 1 (length ds) ≡ true → 1 ≤ length ds
    first h = grind (arith, nat_tests)

natural_spelt : (k n : ℕ) → n ≤ 2 ^ 127 → length (decimal n) ≤ k → IsSpelt k (pos n)
natural_spelt k n most few = record { few = few; plain = decimal_unescaped n (omega (arith, most)) }

minus_spelt : (k n : ℕ) → n ≤ 2 ^ 127 → length (decimal n) ≤ k → IsSpelt (suc k) (neg_ℤ (pos n))
unfolding escape_byte
minus_spelt k zero most few = record { few = omega (arith, few); plain = decimal_unescaped 0 (omega arith) }
minus_spelt k (suc n) most few = record { few = omega (arith, few); plain = omega (arith, decimal_unescaped (suc n) (omega (arith, most))) }

digits_spelt : (ds : List ℕ) (z : ℤ) → int_of_digits ds ≡ Some z → IsSpelt (length ds) z
digits_spelt ds z is =
    let n = digits_value 10 ds in
    let kept = where_true (is_numeral ds && nat_lt n (2 ^ 127)) (Some (pos n)) z is in
    let both = and_parts (is_numeral ds) (nat_lt n (2 ^ 127)) kept.0 in
    let most : n ≤ 2 ^ 127 = below n both.1 in
    subst (IsSpelt (length ds)) (same_Some (pos n) z kept.1) (natural_spelt (length ds) n most (numeral_short ds both.0 most))
  where
    below : (n : ℕ) → nat_lt n (2 ^ 127) ≡ true → n ≤ 2 ^ 127
    below n h = grind (arith, nat_tests)

behind_minus_spelt : (ds : List ℕ) (z : ℤ) → int_behind_minus ds ≡ Some z → IsSpelt (suc (length ds)) z
behind_minus_spelt ds z is =
    let n = digits_value 10 ds in
    let kept = where_true (is_numeral ds && nat_le n (2 ^ 127)) (Some (neg_ℤ (pos n))) z is in
    let both = and_parts (is_numeral ds) (nat_le n (2 ^ 127)) kept.0 in
    let most : n ≤ 2 ^ 127 = below n both.1 in
    subst (IsSpelt (suc (length ds))) (same_Some (neg_ℤ (pos n)) z kept.1) (minus_spelt (length ds) n most (numeral_short ds both.0 most))
  where
    below : (n : ℕ) → nat_le n (2 ^ 127) ≡ true → n ≤ 2 ^ 127
    below n h = grind (arith, nat_tests)

signed_spelt : (text : List ℕ) (z : ℤ) → starts_with_minus text ≡ true → int_behind_minus (drop 1 text) ≡ Some z → IsSpelt (length text) z
signed_spelt [] z minus is = absurd (true≢false (sym minus))
signed_spelt (x ∷ xs) z minus is = behind_minus_spelt xs z is

text_spelt : (text : List ℕ) (z : ℤ) → int_of_text text ≡ Some z → IsSpelt (length text) z
unfolding int_of_text
text_spelt text z = by (starts_with_minus text) refl
  where
    by : (b : Bool) → starts_with_minus text ≡ b → (if b then int_behind_minus (drop 1 text) else int_of_digits text) ≡ Some z → IsSpelt (length text) z
    by true minus is = signed_spelt text z minus is
    by false minus is = digits_spelt text z is

-- a number that was read is passed as that number again
tight_passed : (n : Num) (z : ℤ) → IsTight n → as_integer n ≡ Some z → passed_int z ≡ number n
tight_passed (unsigned n) z tight is = subst (λ y. passed_int y ≡ number (unsigned n)) (same_Some (pos n) z is) (ap (λ b. number_if b (pos n)) (either (is_short (pos n)) (lt_test n (2 ^ 64) tight)))
  where
    either : (a : Bool) → nat_lt n (2 ^ 64) ≡ true → (a || nat_lt n (2 ^ 64)) ≡ true
    either true h = refl
    either false h = h
tight_passed (negative (pos n)) z tight is = absurd tight
tight_passed (negative (negsuc n)) z tight is =
    subst (λ y. passed_int y ≡ number (negative (negsuc n))) (same_Some (negsuc n) z is) (ap (λ b. number_if (b || false) (negsuc n)) tight)
tight_passed (float x) z tight is = absurd (none-some z is)

int_short : (d : Data) (z : ℤ) → IsTightData d → int_of d ≡ Some z → NoLonger (passed_int z) d
int_short null z tight is = absurd (none-some z is)
int_short (boolean b) z tight is = absurd (none-some z is)
int_short (number n) z tight is = omega (arith, ap (λ e. length (compact_text e)) (tight_passed n z tight is))
int_short (string text) z tight is = omega (arith, passed_spelt (length text) z (is_short z || is_natural z) (text_spelt text z is), quoted_grows text)
int_short (array ds) z tight is = absurd (none-some z is)
int_short (object ms) z tight is = absurd (none-some z is)

-- ---- data of each kind

truth_is : (d : Data) (b : Bool) → as_bool d ≡ Some b → d ≡ boolean b
truth_is null b is = absurd (none-some b is)
truth_is (boolean c) b is = ap boolean (same_Some c b is)
truth_is (number n) b is = absurd (none-some b is)
truth_is (string s) b is = absurd (none-some b is)
truth_is (array ds) b is = absurd (none-some b is)
truth_is (object ms) b is = absurd (none-some b is)

null_is : (d : Data) → is_some (as_null d) ≡ true → d ≡ null
null_is null is = refl
null_is (boolean b) is = absurd cc
null_is (number n) is = absurd cc
null_is (string s) is = absurd cc
null_is (array ds) is = absurd cc
null_is (object ms) is = absurd cc

pub text_is : (d : Data) (text : List ℕ) → as_str d ≡ Some text → d ≡ string text
text_is null text is = absurd (none-some text is)
text_is (boolean b) text is = absurd (none-some text is)
text_is (number n) text is = absurd (none-some text is)
text_is (string s) text is = ap string (same_Some s text is)
text_is (array ds) text is = absurd (none-some text is)
text_is (object ms) text is = absurd (none-some text is)

pub array_is : (d : Data) (ds : Items) → as_array d ≡ Some ds → d ≡ array ds
array_is null ds is = absurd (none-some ds is)
array_is (boolean b) ds is = absurd (none-some ds is)
array_is (number n) ds is = absurd (none-some ds is)
array_is (string s) ds is = absurd (none-some ds is)
array_is (array es) ds is = ap array (same_Some es ds is)
array_is (object ms) ds is = absurd (none-some ds is)

-- data that are passed as they are
as_it_is : (d e : Data) (v : Value) → passed_data v ≡ e → d ≡ e → NoLonger (passed_data v) d
as_it_is d e v passed is = omega (arith, ap (λ x. length (compact_text x)) passed, ap (λ x. length (compact_text x)) is)

-- ---- values

-- lists of arguments, behind another item or not
abbrev pub AreNoLonger : Items → Items → Type 0
AreNoLonger ds es = (later : Bool) → length (items_text later ds) ≤ length (items_text later es)

none_longer : AreNoLonger no_items no_items
none_longer later = omega arith

one_longer : (d e : Data) (ds es : Items) → NoLonger d e → AreNoLonger ds es → AreNoLonger (item d ds) (item e es)
one_longer d e ds es one all later =
    omega (
      arith,
      length-append (comma_if later) (compact_text d ++ items_text true ds),
      length-append (compact_text d) (items_text true ds),
      length-append (comma_if later) (compact_text e ++ items_text true es),
      length-append (compact_text e) (items_text true es),
      one,
      all true,
    )

module _ (src : Source) where
  abbrev PassesShortly : PlainTy → Type 0
  PassesShortly ty = (d : Data) (v : Value) → IsSound d → IsTightData d → value_of src ty d ≡ Some v → NoLonger (passed_data v) d

  each_short : (element : PlainTy) → PassesShortly element → (ds : Items) (vs : List Value) → AreSound ds → AreTight ds → each_of (value_of src element) ds ≡ Some vs → AreNoLonger (passed_items vs) ds
  each_short element one no_items vs sound tight is = subst (λ vs. AreNoLonger (passed_items vs) no_items) (same_Some _ _ is) none_longer
  each_short element one (item d ds) vs sound tight is =
      let first = then_some (value_of src element d) _ vs is in
      let rest = then_some (each_of (value_of src element) ds) _ vs first.2 in
      subst (λ vs. AreNoLonger (passed_items vs) (item d ds)) (same_Some _ _ rest.2)
      (one_longer (passed_data first.0) d (passed_items rest.0) ds (one d first.0 sound.0 tight.0 first.1) (each_short element one ds rest.0 sound.1 tight.1 rest.1))

  text_short : (d : Data) (text : List ℕ) (v : Value) → passed_data v ≡ string (encode_utf8_all (chars text)) → IsSound d → d ≡ string text → NoLonger (passed_data v) d
  text_short d text v passed sound is =
      let utf8 : IsUtf8 text = subst IsSound is sound in
      as_it_is d (string text) v (passed ∙ ap string (encodes-chars text utf8)) is

  value_short : (ty : PlainTy) → PassesShortly ty
  value_short TInt d v sound tight is =
      let z = map_found value.Int (int_of d) v is in
      subst (λ v. NoLonger (passed_data v) d) z.2 (subst (λ e. NoLonger e d) (sym (int_is passed_int z.0)) (int_short d z.0 tight z.1))
  value_short TBool d v sound tight is =
      let b = map_found value.Bool (as_bool d) v is in
      subst (λ v. NoLonger (passed_data v) d) b.2 (as_it_is d (boolean b.0) (value.Bool b.0) (bool_is passed_int b.0) (truth_is d b.0 b.1))
  value_short TStr d v sound tight is =
      let text = map_found (λ text. value.Str (chars text)) (as_str d) v is in
      subst (λ v. NoLonger (passed_data v) d) text.2 (text_short d text.0 (value.Str (chars text.0)) (str_is passed_int (chars text.0)) sound (text_is d text.0 text.1))
  value_short TNil d v sound tight is =
      let none = map_found (λ _. value.Nil) (as_null d) v is in
      subst (λ v. NoLonger (passed_data v) d) none.2 (as_it_is d null value.Nil (nil_is passed_int) (null_is d (ap is_some none.1)))
  value_short (TList element) d v sound tight is =
      let vs = map_found value.List (as_array d >>? each_of (value_of src element)) v is in
      let ds = then_some (as_array d) (each_of (value_of src element)) vs.0 vs.1 in
      let same = array_is d ds.0 ds.1 in
      let all = each_short element (value_short element) ds.0 vs.0 (subst IsSound same sound) (subst IsTightData same tight) ds.2 in
      subst (λ v. NoLonger (passed_data v) d) vs.2
      (omega (arith, ap (λ x. length (compact_text x)) (list_is passed_int vs.0), ap (λ x. length (compact_text x)) same, all false))
  value_short (TOptional inner) d v sound tight is = by (is_some (as_null d)) refl is (value_short inner d v sound tight)
    where
      by : (b : Bool) → is_some (as_null d) ≡ b → (if b then Some value.Nil else value_of src inner d) ≡ Some v → (value_of src inner d ≡ Some v → NoLonger (passed_data v) d) → NoLonger (passed_data v) d
      by true here is one = subst (λ v. NoLonger (passed_data v) d) (same_Some value.Nil v is) (as_it_is d null value.Nil (nil_is passed_int) (null_is d here))
      by false here is one = one is
  value_short (TEntity name) d v sound tight is =
      let class = then_some (class_named src name) _ v is in
      let key = map_found (λ key. value.Entity (record { class = class.0; key = chars key })) (as_str d) v class.2 in
      let at : Ref = record { class = class.0; key = chars key.0 } in
      subst (λ v. NoLonger (passed_data v) d) key.2 (text_short d key.0 (value.Entity at) (entity_is passed_int at) sound (text_is d key.0 key.1))

  arg_short : (ty : Option PlainWritten) (d : Data) (v : Value) → IsSound d → IsTightData d → arg_of src ty d ≡ Some v → NoLonger (passed_data v) d
  arg_short None d v sound tight is = absurd (none-some v is)
  arg_short (Some t) d v sound tight is = value_short (type_of t) d v sound tight is

  pub args_short : (ps : List PlainParam) (ds : Items) (vs : List Value) → AreSound ds → AreTight ds → args_of src ps ds ≡ Some vs → AreNoLonger (passed_items vs) ds
  unfolding args_of
  args_short [] no_items vs sound tight is = subst (λ vs. AreNoLonger (passed_items vs) no_items) (same_Some _ _ is) none_longer
  args_short [] (item d ds) vs sound tight is = absurd (none-some vs is)
  args_short (p ∷ ps) no_items vs sound tight is = absurd (none-some vs is)
  args_short (p ∷ ps) (item d ds) vs sound tight is =
      let first = then_some (arg_of src p.ty d) _ vs is in
      let rest = then_some (args_of src ps ds) _ vs first.2 in
      subst (λ vs. AreNoLonger (passed_items vs) (item d ds)) (same_Some _ _ rest.2)
      (one_longer (passed_data first.0) d (passed_items rest.0) ds (arg_short p.ty d first.0 sound.0 tight.0 first.1) (args_short ps ds rest.0 sound.1 tight.1 rest.1))
