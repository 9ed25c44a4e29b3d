-- The arguments of a line: how many bytes they take in the byte form, by the bytes that they take in the line, and that they have a
-- spelling.
use Rattle.std.proofs.Common.{◌≡◌, ℕ, zero, suc, ℤ, pos, ◌+◌, ◌-◌, ◌*◌, ◌^◌, ◌<◌, ◌≤◌, Bool, true, false, ◌&&◌, List, [], ◌∷◌, length, drop, Option, Some, None, if◌then◌else◌, FitsSigned, refl, sym, ap, subst, arith}
use Rattle.std.proofs.Math.Path.{transport}
use Rattle.std.specs.Prelude.{◌==◌, nat_lt, nat_le, neg_ℤ, is_some}
use Rattle.std.specs.Int.{w128}
use Rattle.std.specs.List.{sum_by, AllByRecursion}
use Rattle.std.specs.Str.{IsUtf8, chars}
use Rattle.std.specs.Str.Parse.{digits_value, starts_with_minus}
use Rattle.std.proofs.lemmas.Bool.Decides.{nat_tests}
use Rattle.std.proofs.lemmas.List.Sums.{sum_by-cons}
use Rattle.std.proofs.lemmas.Option.{same_Some, none-some, slice_get_within}
use Rattle.std.proofs.lemmas.Str.{encodes-chars, scalars-chars}
use Rattle.serde_json.specs.Data.{Num, unsigned, negative, float, Data, null, boolean, number, string, array, object, Items, no_items, item}
use Rattle.serde_json.specs.Find.{as_null, as_bool, as_str, as_array, as_integer}
use Rattle.py_tree.specs.PlainTypes.{PlainTy, TInt, TBool, TStr, TNil, TList, TOptional, TEntity, PlainWritten, WInt, WBool, WStr, WNil, WList, WOptional, WEntity, type_of}
use Rattle.py_tree.specs.PlainProgram.{PlainParam, PlainClass}
use Rattle.py_tree.specs.Bounded.{nesting}
use Rattle.sf_value.specs.declared.value.Value.{Value}
use Rattle.sf_value.specs.declared.value.Value.TheVariants as value
use Rattle.byte_sizes.specs.Sizes.{text_size, ref_size, value_size}
use Rattle.byte_sizes.specs.Spelt.{NestsWithin, IsReal}
use Rattle.byte_sizes.proofs.Layers.{size-List, nests-List, real-List}
use Rattle.program_meaning.specs.ClassTables.{Source}
use Rattle.program_meaning.proofs.TableFacts.{map_found}
use Rattle.request_json.specs.Arguments.{◌>>?◌, is_numeral, int_of_digits, int_behind_minus, int_of_text, int_of, each_of, class_named, value_of, arg_of, args_of}
use Rattle.request_json.specs.FittingSpellings.{type_nesting}
use Rattle.request_json.proofs.LineData.{data_least, items_least, IsNarrow, IsSound, AreSound}
use Rattle.request_json.proofs.RequestFits.{then_some, where_true, stands_from}

-- ---- types

pub nesting_is : (t : PlainWritten) → nesting t ≡ type_nesting (type_of t)
unfolding nesting
nesting_is (WInt at) = refl
nesting_is (WBool at) = refl
nesting_is (WStr at) = refl
nesting_is (WNil at) = refl
nesting_is (WList at element) = ap (λ n. 1 + n) (nesting_is element)
nesting_is (WOptional at inner) = ap (λ n. 1 + n) (nesting_is inner)
nesting_is (WEntity at class) = refl

-- where a type is written, it nests no deeper than this
abbrev pub IsFlatTy : ℕ → Option PlainWritten → Type 0
IsFlatTy level None = Unit {0}
IsFlatTy level (Some t) = type_nesting (type_of t) ≤ level

abbrev pub IsFlat : ℕ → PlainParam → Type 0
IsFlat level p = IsFlatTy level p.ty

-- ---- data of each kind

pub text_there : (d : Data) (text : List ℕ) → IsSound d → as_str d ≡ Some text → (data_least d ≡ 2 + length text) × IsUtf8 text
text_there null text sound is = absurd (none-some text is)
text_there (boolean b) text sound is = absurd (none-some text is)
text_there (number n) text sound is = absurd (none-some text is)
text_there (string s) text sound is = let same = same_Some s text is in (ap (λ (t : List ℕ). 2 + length t) same, subst IsUtf8 same sound)
text_there (array ds) text sound is = absurd (none-some text is)
text_there (object ms) text sound is = absurd (none-some text is)

pub array_there : (d : Data) (ds : Items) → IsSound d → as_array d ≡ Some ds → (data_least d ≡ 1 + items_least ds) × AreSound ds
array_there null ds sound is = absurd (none-some ds is)
array_there (boolean b) ds sound is = absurd (none-some ds is)
array_there (number n) ds sound is = absurd (none-some ds is)
array_there (string s) ds sound is = absurd (none-some ds is)
array_there (array es) ds sound is = let same = same_Some es ds is in (ap (λ (l : Items). 1 + items_least l) same, subst AreSound same sound)
array_there (object ms) ds sound is = absurd (none-some ds is)

truth_there : (d : Data) (b : Bool) → as_bool d ≡ Some b → 1 ≤ data_least d
truth_there null b is = absurd (none-some b is)
truth_there (boolean c) b is = omega arith
truth_there (number n) b is = absurd (none-some b is)
truth_there (string s) b is = absurd (none-some b is)
truth_there (array ds) b is = absurd (none-some b is)
truth_there (object ms) b is = absurd (none-some b is)

null_there : (d : Data) → is_some (as_null d) ≡ true → 1 ≤ data_least d
null_there null is = omega arith
null_there (boolean b) is = absurd cc
null_there (number n) is = absurd cc
null_there (string s) is = absurd cc
null_there (array ds) is = absurd cc
null_there (object ms) is = absurd cc

-- ---- ints

narrow_fits : (n : ℕ) → n < 2 ^ 127 → FitsSigned w128 (pos n)
narrow_fits n less = record { sfits = omega (arith, less) }

negative_fits : (n : ℕ) → n ≤ 2 ^ 127 → FitsSigned w128 (neg_ℤ (pos n))
negative_fits zero most = record { sfits = omega arith }
negative_fits (suc n) most = record { sfits = omega (arith, most) }

digits_fit : (b : Bool) (n : ℕ) (z : ℤ) → (if b && nat_lt n (2 ^ 127) then Some (pos n) else None) ≡ Some z → FitsSigned w128 z
digits_fit b n z is =
    let kept = where_true (b && nat_lt n (2 ^ 127)) (Some (pos n)) z is in
    let less : n < 2 ^ 127 = below kept.0 in
    subst (FitsSigned w128) (same_Some (pos n) z kept.1) (narrow_fits n less)
  where
    below : (b && nat_lt n (2 ^ 127)) ≡ true → n < 2 ^ 127
    below h = grind (arith, nat_tests)

minus_fits : (b : Bool) (n : ℕ) (z : ℤ) → (if b && nat_le n (2 ^ 127) then Some (neg_ℤ (pos n)) else None) ≡ Some z → FitsSigned w128 z
minus_fits b n z is =
    let kept = where_true (b && nat_le n (2 ^ 127)) (Some (neg_ℤ (pos n))) z is in
    let most : n ≤ 2 ^ 127 = below kept.0 in
    subst (FitsSigned w128) (same_Some (neg_ℤ (pos n)) z kept.1) (negative_fits n most)
  where
    below : (b && nat_le n (2 ^ 127)) ≡ true → n ≤ 2 ^ 127
    below h = grind (arith, nat_tests)

numeral_fits : (text : List ℕ) (z : ℤ) → int_of_text text ≡ Some z → FitsSigned w128 z
unfolding int_of_text
numeral_fits text z = by (starts_with_minus text)
  where
    by : (b : Bool) → (if b then int_behind_minus (drop 1 text) else int_of_digits text) ≡ Some z → FitsSigned w128 z
    by true is = minus_fits (is_numeral (drop 1 text)) (digits_value 10 (drop 1 text)) z is
    by false is = digits_fit (is_numeral text) (digits_value 10 text) z is

integer_fits : (n : Num) (z : ℤ) → IsNarrow n → as_integer n ≡ Some z → FitsSigned w128 z
integer_fits (unsigned n) z narrow is = subst (FitsSigned w128) (same_Some (pos n) z is) (narrow_fits n (omega (arith, narrow)))
integer_fits (negative m) z narrow is = subst (FitsSigned w128) (same_Some m z is) narrow
integer_fits (float x) z narrow is = absurd (none-some z is)

int_there : (d : Data) (z : ℤ) → IsSound d → int_of d ≡ Some z → (2 ≤ data_least d) × FitsSigned w128 z
int_there null z sound is = absurd (none-some z is)
int_there (boolean b) z sound is = absurd (none-some z is)
int_there (number n) z sound is = (omega arith, integer_fits n z sound is)
int_there (string text) z sound is = (omega arith, numeral_fits text z is)
int_there (array ds) z sound is = absurd (none-some z is)
int_there (object ms) z sound is = absurd (none-some z is)

-- ---- values

-- a value that a program can hold, of at most nine times so many bytes, whose lists nest no deeper than this
pub record Argument (level least : ℕ) (v : Value) : Type 0 where
  pub size : value_size v ≤ 9 * least
  pub real : IsReal v
  pub nests : NestsWithin v level

-- such values together
pub record Arguments (level least : ℕ) (vs : List Value) : Type 0 where
  pub size : sum_by value_size vs ≤ 9 * least
  pub real : AllByRecursion IsReal vs
  pub nests : AllByRecursion (λ v. NestsWithin v level) vs

int_argument : (level least : ℕ) (n : ℤ) → 2 ≤ least → FitsSigned w128 n → Argument level least (value.Int n)
unfolding value_size IsReal NestsWithin
int_argument level least n le fits = record { size = omega (arith, le); real = fits; nests = tt }

bool_argument : (level least : ℕ) (b : Bool) → 1 ≤ least → Argument level least (value.Bool b)
unfolding value_size IsReal NestsWithin
bool_argument level least b le = record { size = omega (arith, le); real = tt; nests = tt }

nil_argument : (level least : ℕ) → 1 ≤ least → Argument level least value.Nil
unfolding value_size IsReal NestsWithin
nil_argument level least le = record { size = omega (arith, le); real = tt; nests = tt }

str_argument : (level least : ℕ) (text : List ℕ) → IsUtf8 text → least ≡ 2 + length text → Argument level least (value.Str (chars text))
unfolding value_size text_size IsReal NestsWithin
str_argument level least text utf8 is = record { size = omega (arith, is, ap length (encodes-chars text utf8)); real = scalars-chars text utf8; nests = tt }

entity_argument : (level least class : ℕ) (key : List ℕ) → class < 2 ^ 32 → IsUtf8 key → least ≡ 2 + length key → Argument level least (value.Entity (record { class = class; key = chars key }))
unfolding value_size ref_size text_size IsReal NestsWithin
entity_argument level least class key few utf8 is = record { size = omega (arith, is, ap length (encodes-chars key utf8)); real = (few, scalars-chars key utf8); nests = tt }

list_argument : (level least : ℕ) (vs : List Value) → 0 < level → Arguments (level - 1) least vs → Argument level (1 + least) (value.List vs)
list_argument level least vs some all = record {
  size = omega (arith, size-List vs, all.size);
  real = transport (sym (real-List vs)) all.real;
  nests = transport (sym (nests-List vs level)) (some, all.nests);
}

no_arguments : (level : ℕ) → Arguments level 0 []
no_arguments level = record { size = omega arith; real = tt; nests = tt }

more_arguments : (level m n : ℕ) (v : Value) (vs : List Value) → Argument level m v → Arguments level n vs → Arguments level (m + n) (v ∷ vs)
more_arguments level m n v vs one all = record { size = omega (arith, sum_by-cons value_size v vs, one.size, all.size); real = (one.real, all.real); nests = (one.nests, all.nests) }

-- the values of a program with few classes
module _ (src : Source) (few : length src.program < 2 ^ 32) where
  class_real : (name class : ℕ) → class_named src name ≡ Some class → class < 2 ^ 32
  class_real name class is =
      let c = stands_from (λ (c : PlainClass). c.name == name) src.program class is in
      omega (arith, few, slice_get_within src.program class c.0 c.1)

  each_argument : (element : PlainTy) (level : ℕ) → ((d : Data) (v : Value) → IsSound d → value_of src element d ≡ Some v → Argument level (data_least d) v)
      → (ds : Items) (vs : List Value) → AreSound ds → each_of (value_of src element) ds ≡ Some vs → Arguments level (items_least ds) vs
  each_argument element level one no_items vs sound is = subst (Arguments level 0) (same_Some _ _ is) (no_arguments level)
  each_argument element level one (item d ds) vs sound is =
      let first = then_some (value_of src element d) _ vs is in
      let rest = then_some (each_of (value_of src element) ds) _ vs first.2 in
      subst (Arguments level (items_least (item d ds))) (same_Some _ _ rest.2)
      (more_arguments level (data_least d) (items_least ds) first.0 rest.0 (one d first.0 sound.0 first.1) (each_argument element level one ds rest.0 sound.1 rest.1))

  argument : (ty : PlainTy) (level : ℕ) → type_nesting ty ≤ level → (d : Data) (v : Value) → IsSound d → value_of src ty d ≡ Some v → Argument level (data_least d) v
  argument TInt level flat d v sound is =
      let n = map_found value.Int (int_of d) v is in
      let there = int_there d n.0 sound n.1 in
      subst (Argument level (data_least d)) n.2 (int_argument level (data_least d) n.0 there.0 there.1)
  argument TBool level flat d v sound is = let b = map_found value.Bool (as_bool d) v is in subst (Argument level (data_least d)) b.2 (bool_argument level (data_least d) b.0 (truth_there d b.0 b.1))
  argument TStr level flat d v sound is =
      let text = map_found (λ text. value.Str (chars text)) (as_str d) v is in
      let there = text_there d text.0 sound text.1 in
      subst (Argument level (data_least d)) text.2 (str_argument level (data_least d) text.0 there.1 there.0)
  argument TNil level flat d v sound is =
      let none = map_found (λ _. value.Nil) (as_null d) v is in
      subst (Argument level (data_least d)) none.2 (nil_argument level (data_least d) (null_there d (ap is_some none.1)))
  argument (TList element) level flat d v sound is =
      let vs = map_found value.List (as_array d >>? each_of (value_of src element)) v is in
      let ds = then_some (as_array d) (each_of (value_of src element)) vs.0 vs.1 in
      let there = array_there d ds.0 sound ds.1 in
      let all = each_argument element (level - 1) (argument element (level - 1) (omega (arith, flat))) ds.0 vs.0 there.1 ds.2 in
      subst (Argument level (data_least d)) vs.2 (subst (λ n. Argument level n (value.List vs.0)) (sym there.0) (list_argument level (items_least ds.0) vs.0 (omega (arith, flat)) all))
  argument (TOptional inner) level flat d v sound is = by (is_some (as_null d)) refl is (argument inner level (omega (arith, flat)) d v sound)
    where
      by : (b : Bool) → is_some (as_null d) ≡ b → (if b then Some value.Nil else value_of src inner d) ≡ Some v → (value_of src inner d ≡ Some v → Argument level (data_least d) v) → Argument level (data_least d) v
      by true here is one = subst (Argument level (data_least d)) (same_Some _ _ is) (nil_argument level (data_least d) (null_there d here))
      by false here is one = one is
  argument (TEntity name) level flat d v sound is =
      let class = then_some (class_named src name) _ v is in
      let key = map_found (λ key. value.Entity (record { class = class.0; key = chars key })) (as_str d) v class.2 in
      let there = text_there d key.0 sound key.1 in
      subst (Argument level (data_least d)) key.2 (entity_argument level (data_least d) class.0 key.0 (class_real name class.0 class.1) there.1 there.0)

  arg_argument : (ty : Option PlainWritten) (level : ℕ) → IsFlatTy level ty → (d : Data) (v : Value) → IsSound d → arg_of src ty d ≡ Some v → Argument level (data_least d) v
  arg_argument None level flat d v sound is = absurd (none-some v is)
  arg_argument (Some t) level flat d v sound is = argument (type_of t) level flat d v sound is

  pub arguments : (ps : List PlainParam) (level : ℕ) → AllByRecursion (IsFlat level) ps → (ds : Items) (vs : List Value) → AreSound ds → args_of src ps ds ≡ Some vs → Arguments level (items_least ds) vs
  unfolding args_of
  arguments [] level flat no_items vs sound is = subst (Arguments level 0) (same_Some _ _ is) (no_arguments level)
  arguments [] level flat (item d ds) vs sound is = absurd (none-some vs is)
  arguments (p ∷ ps) level flat no_items vs sound is = absurd (none-some vs is)
  arguments (p ∷ ps) level flat (item d ds) vs sound is =
      let first = then_some (arg_of src p.ty d) _ vs is in
      let rest = then_some (args_of src ps ds) _ vs first.2 in
      subst (Arguments level (items_least (item d ds))) (same_Some _ _ rest.2)
      (more_arguments level (data_least d) (items_least ds) first.0 rest.0 (arg_argument p.ty level flat.0 d first.0 sound.0 first.1) (arguments ps level flat.1 ds rest.0 sound.1 rest.1))
