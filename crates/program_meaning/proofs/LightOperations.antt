-- What operators and functions make of values is light, and so are the items of a light list.
use Rattle.std.proofs.Common.{◌≡◌, ◌≤◌, ◌+◌, ◌-◌, ℕ, zero, suc, ℤ, pos, negsuc, arith, Bool, true, false, Result, Ok, Err, List, [], ◌∷◌, ◌++◌, length, if◌then◌else◌, refl, sym, ap, ◌∙◌, subst}
use Rattle.std.specs.Prelude.{nat_le, nat_lt, slice_get}
use Rattle.std.specs.List.{sum_by}
use Rattle.std.specs.Ordering.{int_eq}
use Rattle.std.proofs.lemmas.Bool.{leb-true, le-leb}
use Rattle.std.proofs.lemmas.List.Sums.{sum_by-cons}
use Rattle.py_tree.specs.declared.expr.BinOp.{BinOp}
use Rattle.py_tree.specs.declared.expr.BinOp.TheVariants as op
use Rattle.py_tree.specs.ExpressionTypes.{Function, Length, Text, Absolute, Least, Greatest}
use Rattle.sf_value.specs.Weight.{weight_of}
use Rattle.sf_value.specs.Arithmetic.{floor_quotient, floor_rest}
use Rattle.sf_value.specs.declared.Failure.{Failure}
use Rattle.sf_value.specs.declared.value.Value.{Value, Value-F, out-Value, roll-Value, roll-out-Value}
use Rattle.sf_value.specs.declared.value.Value.TheVariants as value
use Rattle.sf_value.specs.declared.value.Value.TheVariants.{rolls-List}
use Rattle.sf_value.specs.declared.value.Value.TheOpen as open_value
use Rattle.sf_value.proofs.Weights.{weight-List}
use Rattle.program_meaning.specs.World.{size_limit, overflow_error, zero_division_error, index_error}
use Rattle.program_meaning.specs.Operations.{fits, in_range, weighed, int_of, items_of, items_in, element, element_at, combined, sum_with, divided, given_by}
use Rattle.program_meaning.specs.LightValues.{IsLight, AreLight, no_value, one_more}

-- a result is light, where there is one
abbrev pub LightResult : Result Value Failure → Type 0
LightResult (Ok v) = IsLight v
LightResult (Err f) = Unit {0}

either_light : (b : Bool) (r q : Result Value Failure) → LightResult r → LightResult q → LightResult (if b then r else q)
either_light true r q first second = first
either_light false r q first second = second

-- a light value passes the test of its weight
pub light_weighed : (v : Value) → IsLight v → weighed v ≡ Ok v
unfolding weighed
light_weighed v l = ap (λ b. if b then Ok v else Err size_limit) (le-leb _ _ l.most)

pub int_light : (z : ℤ) → IsLight (value.Int z)
unfolding weight_of
int_light z = record { most = omega arith }

pub bool_light : (b : Bool) → IsLight (value.Bool b)
unfolding weight_of
bool_light b = record { most = omega arith }

pub nil_light : IsLight value.Nil
unfolding weight_of
nil_light = record { most = omega arith }

pub weighed_light : (v : Value) → LightResult (weighed v)
unfolding weighed
weighed_light v = by (nat_le (weight_of v) 65536) refl
  where
    by : (b : Bool) → nat_le (weight_of v) 65536 ≡ b → LightResult (if b then Ok v else Err size_limit)
    by true e = record { most = leb-true _ _ e }
    by false e = tt

pub in_range_light : (z : ℤ) → LightResult (in_range z)
unfolding in_range
in_range_light z = either_light (fits z) (Ok (value.Int z)) (Err overflow_error) (int_light z) tt

-- Items

-- what weighs less than a value may, all in all, is light one by one
parts_light : (xs : List Value) → sum_by weight_of xs ≤ 65535 → AreLight xs
parts_light [] most = no_value
parts_light (x ∷ xs) most =
    let whole = sum_by-cons weight_of x xs in
    one_more (record { most = omega (arith, whole, most) }) (parts_light xs (omega (arith, whole, most)))

items_in_light : (layer : Value-F Value) → IsLight (roll-Value layer) → AreLight (items_in layer)
items_in_light (open_value.Int z) l = no_value
items_in_light (open_value.Bool b) l = no_value
items_in_light (open_value.Str text) l = no_value
items_in_light open_value.Nil l = no_value
items_in_light (open_value.List xs) l =
    let whole : weight_of (roll-Value (open_value.List xs)) ≡ 1 + sum_by weight_of xs = ap weight_of (rolls-List xs) ∙ weight-List xs in
    let most = l.most in
    parts_light xs (omega (arith, whole, most))
items_in_light (open_value.Entity at) l = no_value

pub items_light : (v : Value) → IsLight v → AreLight (items_of v)
items_light v l = items_in_light (out-Value v) (subst IsLight (sym (roll-out-Value v)) l)

place_light : (xs : List Value) → AreLight xs → (k : ℕ) → LightResult (element_at (slice_get xs k))
place_light [] no_value k = tt
place_light (x ∷ xs) (one_more l all) zero = l
place_light (x ∷ xs) (one_more l all) (suc k) = place_light xs all k

pub element_light : (xs : List Value) → AreLight xs → (z : ℤ) → LightResult (element xs z)
element_light xs all (pos k) = place_light xs all k
element_light xs all (negsuc k) = either_light (nat_lt k (length xs)) (element_at (slice_get xs (length xs - (k + 1)))) (Err index_error) (place_light xs all (length xs - (k + 1))) tt

pub light_behind : (vs : List Value) (v : Value) → AreLight vs → IsLight v → AreLight (vs ++ v ∷ [])
light_behind [] v no_value l = one_more l no_value
light_behind (u ∷ vs) v (one_more m all) l = one_more m (light_behind vs v all l)

-- Operators and functions

divided_light : (y : ℤ) (r : Result Value Failure) → LightResult r → LightResult (divided y r)
divided_light y r l = either_light (int_eq y (pos 0)) (Err zero_division_error) r tt l

sum_light : (layer : Value-F Value) (w : Value) → LightResult (sum_with layer w)
sum_light (open_value.Int x) w = in_range_light _
sum_light (open_value.Bool b) w = nil_light
sum_light (open_value.Str text) w = weighed_light _
sum_light open_value.Nil w = nil_light
sum_light (open_value.List xs) w = weighed_light _
sum_light (open_value.Entity at) w = nil_light

pub combined_light : (o : BinOp) (v w : Value) → LightResult (combined o v w)
unfolding combined
combined_light op.Add v w = sum_light (out-Value v) w
combined_light op.Sub v w = in_range_light _
combined_light op.Mul v w = in_range_light _
combined_light op.FloorDiv v w = divided_light (int_of w) (in_range (floor_quotient (int_of v) (int_of w))) (in_range_light _)
combined_light op.Mod v w = divided_light (int_of w) (in_range (floor_rest (int_of v) (int_of w))) (in_range_light _)

pub given_light : (f : Function) (args : List Value) → LightResult (given_by f args)
unfolding given_by
given_light Length args = int_light _
given_light Text args = weighed_light _
given_light Absolute args = in_range_light _
given_light Least args = int_light _
given_light Greatest args = int_light _
