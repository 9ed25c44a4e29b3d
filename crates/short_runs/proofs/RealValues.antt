-- What operators and functions make of real values is real, and so are the items of a real list.
use Rattle.std.proofs.Common.{◌≡◌, ℕ, zero, suc, ◌+◌, ◌^◌, ◌<◌, ◌≤◌, ℤ, pos, negsuc, ◌+ℤ◌, ◌<ℤ◌, Bool, true, false, ◌&&◌, true≢false, Result, Ok, Err, List, [], ◌∷◌, ◌++◌, length, if◌then◌else◌, refl, sym, ap, ◌∙◌, subst, arith, FitsSigned}
use Rattle.std.specs.Prelude.{nat_le}
use Rattle.std.specs.Int.{w128}
use Rattle.std.specs.Fmt.{decimal, signed_decimal}
use Rattle.std.specs.List.{AllByRecursion, sum_by}
use Rattle.std.specs.Str.{all_scalars, chars, encode_utf8_all}
use Rattle.std.specs.declared.cmp.Ordering.{Ordering}
use Rattle.std.specs.declared.cmp.Ordering.TheVariants.{Less, Equal, Greater}
use Rattle.std.specs.Cmp.{int_ranks}
use Rattle.std.specs.Ordering.{MatchOrdering, int_cmp, int_eq, is_lt, is_gt}
use Rattle.std.proofs.Math.Path.{transport}
use Rattle.std.proofs.lemmas.Bool.{and_parts, leb-true, ltb-true}
use Rattle.std.proofs.lemmas.Fmt.{IsAscii-decimal_wide}
use Rattle.std.proofs.lemmas.Int.{ints}
use Rattle.std.proofs.lemmas.List.Sums.{sum_by-cons}
use Rattle.std.proofs.lemmas.Str.{IsUtf8-from_ascii, length-le-encodes, scalars-chars}
use Rattle.std.proofs.lemmas.Str.Ascii.{IsAscii-cons}
use Rattle.py_tree.specs.declared.expr.BinOp.{BinOp}
use Rattle.py_tree.specs.declared.expr.BinOp.TheVariants as op
use Rattle.py_tree.specs.ExpressionTypes.{Function, Length, Text, Absolute, Least, Greatest}
use Rattle.sf_value.specs.Arithmetic.{floor_quotient, floor_rest}
use Rattle.sf_value.specs.Weight.{weight_of}
use Rattle.sf_value.specs.declared.Failure.{Failure}
use Rattle.sf_value.specs.declared.value.Value.{Value, Value-F, out-Value, roll-Value, roll-out-Value}
use Rattle.sf_value.specs.declared.value.Value.TheVariants as value
use Rattle.sf_value.specs.declared.value.Value.TheVariants.{rolls-Str, rolls-List}
use Rattle.sf_value.specs.declared.value.Value.TheOpen as open_value
use Rattle.sf_value.proofs.Variants.{by_variants}
use Rattle.sf_value.proofs.Weights.{weight-Int, weight-Bool, weight-Str, weight-Nil, weight-List, weight-Entity}
use Rattle.byte_sizes.specs.Spelt.{IsRealText, IsReal, AreReal}
use Rattle.byte_sizes.proofs.Layers.{real-List}
use Rattle.program_meaning.specs.World.{overflow_error, size_limit, zero_division_error}
use Rattle.program_meaning.specs.Operations.{fits, in_range, weighed, int_of, text_of, items_in, items_of, combined, sum_with, divided, size_in, argument, given_by}
use Rattle.program_meaning.specs.LightValues.{IsLight}
use Rattle.program_meaning.proofs.LightOperations.{int_light, nil_light, items_light}
use Rattle.program_meaning.proofs.LightRuns.{each_light}
use Rattle.program_meaning.proofs.KeptKinds.{OfResult}

-- a value that an expression gives: it is light and real
pub record IsLightAndReal (v : Value) : Type 0 where
  pub light : IsLight v
  pub real : IsReal v

abbrev pub ResultIsReal : Result Value Failure → Type 0
ResultIsReal r = OfResult IsLightAndReal IsRealText r

-- ---- numbers

fits_real : (z : ℤ) → fits z ≡ true → FitsSigned w128 z
fits_real (pos n) e = record { sfits = ltb-true n (2 ^ 127) e }
fits_real (negsuc n) e = record { sfits = ltb-true n (2 ^ 127) e }

zero_real : FitsSigned w128 (pos 0)
zero_real = record { sfits = omega arith }

less : (x y : ℤ) → is_lt (int_cmp x y) ≡ true → x <ℤ y
less x y e = by (int_cmp x y) (int_ranks x y) e
  where
    by : (r : Ordering) → MatchOrdering r (x <ℤ y) (x ≡ y) (y <ℤ x) → is_lt r ≡ true → x <ℤ y
    by Less is e = is
    by Equal is e = absurd (true≢false (sym e))
    by Greater is e = absurd (true≢false (sym e))

one_more : (a : ℕ) → pos a +ℤ pos 1 ≡ pos (a + 1)
one_more a = omega (arith, ints)

one_less : (a : ℕ) → negsuc (suc a) +ℤ pos 1 ≡ negsuc a
one_less a = omega (arith, ints)

next_fits : (x y : ℤ) → FitsSigned w128 x → FitsSigned w128 y → x <ℤ y → FitsSigned w128 (x +ℤ pos 1)
next_fits (pos a) (pos b) x y below =
    let most : b < 2 ^ 127 = y.sfits in
    let under : a < b = omega (arith, ints, below) in
    subst (FitsSigned w128) (sym (one_more a)) (record { sfits = omega (arith, under, most) })
next_fits (pos a) (negsuc b) x y below = absurd (omega (arith, ints, below))
next_fits (negsuc zero) y x y_fits below = zero_real
next_fits (negsuc (suc a)) y x y_fits below =
    let most : suc a < 2 ^ 127 = x.sfits in
    subst (FitsSigned w128) (sym (one_less a)) (record { sfits = omega (arith, most) })

-- ---- texts

text_joined : (a b : List ℕ) → IsRealText a → IsRealText b → IsRealText (a ++ b)
text_joined [] b first second = second
text_joined (c ∷ a) b first second =
    let parts = and_parts _ (all_scalars a) first in
    both _ (all_scalars (a ++ b)) parts.0 (text_joined a b parts.1 second)
  where
    both : (x y : Bool) → x ≡ true → y ≡ true → (x && y) ≡ true
    both true y first second = second
    both false y first second = absurd (true≢false (sym first))

decimal_real : (z : ℤ) → FitsSigned w128 z → IsRealText (chars (signed_decimal z))
decimal_real (pos n) real =
    let most : n < 2 ^ 127 = real.sfits in
    scalars-chars (decimal n) (IsUtf8-from_ascii (decimal n) (IsAscii-decimal_wide n (omega (arith, most))))
decimal_real (negsuc n) real =
    let most : n < 2 ^ 127 = real.sfits in
    scalars-chars (45 ∷ decimal (suc n)) (IsUtf8-from_ascii (45 ∷ decimal (suc n)) (IsAscii-cons 45 (decimal (suc n)) (omega arith) (IsAscii-decimal_wide (suc n) (omega (arith, most)))))

-- ---- the parts of a value

pub text_real : (v : Value) → IsReal v → IsRealText (text_of v)
unfolding IsReal
text_real = by_variants (λ v. IsReal v → IsRealText (text_of v)) (λ z real. refl) (λ b real. refl) (λ text real. real) (λ real. refl) (λ vs real. refl) (λ at real. refl)

pub number_real : (v : Value) → IsReal v → FitsSigned w128 (int_of v)
unfolding IsReal
number_real = by_variants (λ v. IsReal v → FitsSigned w128 (int_of v)) (λ z real. real) (λ b real. zero_real) (λ text real. zero_real) (λ real. zero_real) (λ vs real. zero_real) (λ at real. zero_real)

items_in_real : (layer : Value-F Value) → IsReal (roll-Value layer) → AreReal (items_in layer)
items_in_real (open_value.Int z) real = tt
items_in_real (open_value.Bool b) real = tt
items_in_real (open_value.Str text) real = tt
items_in_real open_value.Nil real = tt
items_in_real (open_value.List xs) real = transport (real-List xs) (subst IsReal (rolls-List xs) real)
items_in_real (open_value.Entity at) real = tt

items_real : (v : Value) → IsReal v → AreReal (items_of v)
items_real v real = items_in_real (out-Value v) (subst IsReal (sym (roll-out-Value v)) real)

pub each_both : (vs : List Value) → AllByRecursion IsLight vs → AreReal vs → AllByRecursion IsLightAndReal vs
each_both [] light real = tt
each_both (v ∷ vs) light real = (record { light = light.0; real = real.0 }, each_both vs light.1 real.1)

each_real : (vs : List Value) → AllByRecursion IsLightAndReal vs → AreReal vs
each_real [] all = tt
each_real (v ∷ vs) all = (all.0.real, each_real vs all.1)

all_joined : (xs ys : List Value) → AreReal xs → AreReal ys → AreReal (xs ++ ys)
all_joined [] ys first second = second
all_joined (x ∷ xs) ys first second = (first.0, all_joined xs ys first.1 second)

pub items_given : (v : Value) → IsLightAndReal v → AllByRecursion IsLightAndReal (items_of v)
items_given v is = each_both (items_of v) (each_light (items_of v) (items_light v is.light)) (items_real v is.real)

list_of : (vs : List Value) → AreReal vs → IsReal (value.List vs)
list_of vs real = transport (sym (real-List vs)) real

pub list_real : (vs : List Value) → AllByRecursion IsLightAndReal vs → IsReal (value.List vs)
list_real vs all = list_of vs (each_real vs all)

-- ---- results

pub int_given : (z : ℤ) → FitsSigned w128 z → IsLightAndReal (value.Int z)
unfolding IsReal
int_given z real = record { light = int_light z; real = real }

pub nil_given : IsLightAndReal value.Nil
unfolding IsReal
nil_given = record { light = nil_light; real = tt }

pub next_given : (x y : ℤ) → IsLightAndReal (value.Int x) → IsLightAndReal (value.Int y) → is_lt (int_cmp x y) ≡ true → IsLightAndReal (value.Int (x +ℤ pos 1))
unfolding IsReal
next_given x y first last e = int_given (x +ℤ pos 1) (next_fits x y first.real last.real (less x y e))

pub weighed_given : (v : Value) → IsReal v → ResultIsReal (weighed v)
unfolding weighed
weighed_given v real = by (nat_le (weight_of v) 65536) refl
  where
    by : (b : Bool) → nat_le (weight_of v) 65536 ≡ b → ResultIsReal (if b then Ok v else Err size_limit)
    by true e = record { light = record { most = leb-true _ _ e }; real = real }
    by false e = refl

pub range_given : (z : ℤ) → ResultIsReal (in_range z)
unfolding in_range
range_given z = by (fits z) refl
  where
    by : (b : Bool) → fits z ≡ b → ResultIsReal (if b then Ok (value.Int z) else Err overflow_error)
    by true e = int_given z (fits_real z e)
    by false e = refl

-- ---- operators

divided_given : (y : ℤ) (r : Result Value Failure) → ResultIsReal r → ResultIsReal (divided y r)
divided_given y r is = by (int_eq y (pos 0))
  where
    by : (b : Bool) → ResultIsReal (if b then Err zero_division_error else r)
    by true = refl
    by false = is

text_of_layer : (text : List ℕ) → IsReal (roll-Value (open_value.Str text)) → IsRealText text
unfolding IsReal
text_of_layer text real = subst IsReal (rolls-Str text) real

as_text : (text : List ℕ) → IsRealText text → IsReal (value.Str text)
unfolding IsReal
as_text text real = real

sum_given : (layer : Value-F Value) (w : Value) → IsReal (roll-Value layer) → IsReal w → ResultIsReal (sum_with layer w)
sum_given (open_value.Int x) w first second = range_given _
sum_given (open_value.Bool b) w first second = nil_given
sum_given (open_value.Str text) w first second = weighed_given _ (as_text (text ++ text_of w) (text_joined text (text_of w) (text_of_layer text first) (text_real w second)))
sum_given open_value.Nil w first second = nil_given
sum_given (open_value.List xs) w first second = weighed_given _ (list_of (xs ++ items_of w) (all_joined xs (items_of w) (items_in_real (open_value.List xs) first) (items_real w second)))
sum_given (open_value.Entity at) w first second = nil_given

pub combined_given : (o : BinOp) (v w : Value) → IsLightAndReal v → IsLightAndReal w → ResultIsReal (combined o v w)
unfolding combined
combined_given op.Add v w first second = sum_given (out-Value v) w (subst IsReal (sym (roll-out-Value v)) first.real) second.real
combined_given op.Sub v w first second = range_given _
combined_given op.Mul v w first second = range_given _
combined_given op.FloorDiv v w first second = divided_given (int_of w) (in_range (floor_quotient (int_of v) (int_of w))) (range_given _)
combined_given op.Mod v w first second = divided_given (int_of w) (in_range (floor_rest (int_of v) (int_of w))) (range_given _)

-- ---- functions

-- a value weighs something, so a light list has few items
weighs : (v : Value) → 1 ≤ weight_of v
weighs = by_variants (λ v. 1 ≤ weight_of v) (λ z. let is = weight-Int z in omega (arith, is)) (λ b. let is = weight-Bool b in omega (arith, is)) (λ text. let is = weight-Str text in omega (arith, is))
    (let is = weight-Nil in omega (arith, is)) (λ vs. let is = weight-List vs in omega (arith, is)) (λ at. let is = weight-Entity at in omega (arith, is))

count_most : (vs : List Value) → length vs ≤ sum_by weight_of vs
count_most [] = omega arith
count_most (v ∷ vs) = omega (arith, sum_by-cons weight_of v vs, weighs v, count_most vs)

size_small : (layer : Value-F Value) → IsLight (roll-Value layer) → size_in layer ≤ 65536
size_small (open_value.Int z) light = omega arith
size_small (open_value.Bool b) light = omega arith
size_small (open_value.Str text) light =
    let whole : weight_of (roll-Value (open_value.Str text)) ≡ 1 + length (encode_utf8_all text) = ap weight_of (rolls-Str text) ∙ weight-Str text in
    let most = light.most in
    omega (arith, whole, most, length-le-encodes text)
size_small open_value.Nil light = omega arith
size_small (open_value.List xs) light =
    let whole : weight_of (roll-Value (open_value.List xs)) ≡ 1 + sum_by weight_of xs = ap weight_of (rolls-List xs) ∙ weight-List xs in
    let most = light.most in
    omega (arith, whole, most, count_most xs)
size_small (open_value.Entity at) light = omega arith

size_given : (v : Value) → IsLightAndReal v → FitsSigned w128 (pos (size_in (out-Value v)))
size_given v is = let small = size_small (out-Value v) (subst IsLight (sym (roll-out-Value v)) is.light) in record { sfits = omega (arith, small) }

argument_given : (args : List Value) (i : ℕ) → AllByRecursion IsLightAndReal args → IsLightAndReal (argument args i)
argument_given [] i all = nil_given
argument_given (v ∷ args) zero all = all.0
argument_given (v ∷ args) (suc i) all = argument_given args i all.1

chosen_given : (b : Bool) (x y : ℤ) → FitsSigned w128 x → FitsSigned w128 y → IsLightAndReal (value.Int (if b then x else y))
chosen_given true x y first second = int_given x first
chosen_given false x y first second = int_given y second

pub given_given : (f : Function) (args : List Value) → AllByRecursion IsLightAndReal args → ResultIsReal (given_by f args)
unfolding given_by
given_given Length args all = int_given _ (size_given (argument args 0) (argument_given args 0 all))
given_given Text args all = weighed_given _ (as_text _ (decimal_real (int_of (argument args 0)) (number_real (argument args 0) (argument_given args 0 all).real)))
given_given Absolute args all = range_given _
given_given Least args all =
    let first = number_real (argument args 0) (argument_given args 0 all).real in
    let second = number_real (argument args 1) (argument_given args 1 all).real in
    chosen_given (is_gt (int_cmp (int_of (argument args 0)) (int_of (argument args 1)))) (int_of (argument args 1)) (int_of (argument args 0)) second first
given_given Greatest args all =
    let first = number_real (argument args 0) (argument_given args 0 all).real in
    let second = number_real (argument args 1) (argument_given args 1 all).real in
    chosen_given (is_lt (int_cmp (int_of (argument args 0)) (int_of (argument args 1)))) (int_of (argument args 1)) (int_of (argument args 0)) second first
