-- What operators and functions make of values. The rules refuse a program in which a value of another kind could come here; the
-- definitions are total, and take a value of another kind for None, 0, False or the empty text or list.
use Rattle.std.specs.Prelude.{ℕ, ◌+◌, ◌-◌, ℤ, pos, negsuc, ◌+ℤ◌, ◌-ℤ◌, ◌*ℤ◌, ◌^◌, Bool, true, false, not, nat_lt, nat_le, List, [], ◌++◌, length, slice_get, Some, None, Ok, Err, if◌then◌else◌, unwrap_or}
use Rattle.std.specs.declared.option.Option.{Option}
use Rattle.std.specs.declared.result.Result.{Result}
use Rattle.std.specs.declared.cmp.Ordering.{Ordering}
use Rattle.std.specs.Ordering.{nat_cmp, int_cmp, int_eq, is_lt, is_gt}
use Rattle.std.specs.Cmp.Lexicographic.{slice_cmp}
use Rattle.std.specs.Fmt.{signed_decimal}
use Rattle.std.specs.Str.{chars}
use Rattle.py_tree.specs.declared.expr.BinOp.{BinOp}
use Rattle.py_tree.specs.declared.expr.BinOp.TheVariants as op
use Rattle.py_tree.specs.declared.expr.Cmp.{Cmp}
use Rattle.py_tree.specs.declared.expr.Cmp.TheVariants as cmp
use Rattle.py_tree.specs.ExpressionTypes.{Function, Length, Text, Absolute, Least, Greatest}
use Rattle.sf_value.specs.Arithmetic.{floor_quotient, floor_rest}
use Rattle.sf_value.specs.Sameness.{same_value}
use Rattle.sf_value.specs.Weight.{weight_of}
use Rattle.sf_value.specs.declared.value.Value.{Value, Value-F, out-Value}
use Rattle.sf_value.specs.declared.value.Value.TheVariants as value
use Rattle.sf_value.specs.declared.value.Value.TheOpen as open_value
use Rattle.sf_value.specs.declared.Failure.{Failure}
use Rattle.program_meaning.specs.World.{zero_division_error, index_error, overflow_error, size_limit}

-- an int goes from -2^127 to 2^127-1
abbrev pub fits : ℤ → Bool
fits (pos n) = nat_lt n (2 ^ 127)
fits (negsuc n) = nat_lt n (2 ^ 127)

unfoldable pub in_range : ℤ → Result Value Failure
in_range z = if fits z then Ok (value.Int z) else Err overflow_error

-- a value that an expression gives weighs at most 65,536
unfoldable pub weighed : Value → Result Value Failure
weighed v = if nat_le (weight_of v) 65536 then Ok v else Err size_limit

abbrev pub int_of : Value → ℤ
int_of (value.Int z) = z
int_of _ = pos 0

abbrev pub is_true : Value → Bool
is_true (value.Bool b) = b
is_true _ = false

abbrev pub text_of : Value → List ℕ
text_of (value.Str text) = text
text_of _ = []

abbrev pub is_nil : Value → Bool
is_nil value.Nil = true
is_nil _ = false

-- Lists

abbrev pub items_in : Value-F Value → List Value
items_in (open_value.List xs) = xs
items_in _ = []

abbrev pub items_of : Value → List Value
items_of v = items_in (out-Value v)

abbrev pub element_at : Option Value → Result Value Failure
element_at None = Err index_error
element_at (Some v) = Ok v

-- the element at a place, which counts from the end where it is negative
abbrev pub element : List Value → ℤ → Result Value Failure
element xs (pos k) = element_at (slice_get xs k)
element xs (negsuc k) = if nat_lt k (length xs) then element_at (slice_get xs (length xs - (k + 1))) else Err index_error

-- Operators

abbrev pub sum_with : Value-F Value → Value → Result Value Failure
sum_with (open_value.Int x) w = in_range (x +ℤ int_of w)
sum_with (open_value.Str text) w = weighed (value.Str (text ++ text_of w))
sum_with (open_value.List xs) w = weighed (value.List (xs ++ items_of w))
sum_with _ w = Ok value.Nil

-- unless the divisor is 0
abbrev pub divided : ℤ → Result Value Failure → Result Value Failure
divided y result = if int_eq y (pos 0) then Err zero_division_error else result

unfoldable pub combined : BinOp → Value → Value → Result Value Failure
combined op.Add v w = sum_with (out-Value v) w
combined op.Sub v w = in_range (int_of v -ℤ int_of w)
combined op.Mul v w = in_range (int_of v *ℤ int_of w)
combined op.FloorDiv v w = divided (int_of w) (in_range (floor_quotient (int_of v) (int_of w)))
combined op.Mod v w = divided (int_of w) (in_range (floor_rest (int_of v) (int_of w)))

-- numbers by size, texts by their code points
abbrev pub order : Value → Value → Ordering
order (value.Str a) w = slice_cmp nat_cmp a (text_of w)
order v w = int_cmp (int_of v) (int_of w)

unfoldable pub holds : Cmp → Value → Value → Bool
holds cmp.Eq v w = same_value v w
holds cmp.Ne v w = not (same_value v w)
holds cmp.Lt v w = is_lt (order v w)
holds cmp.Gt v w = is_gt (order v w)
holds cmp.Le v w = not (is_gt (order v w))
holds cmp.Ge v w = not (is_lt (order v w))

-- Functions

abbrev pub size_in : Value-F Value → ℕ
size_in (open_value.Str text) = length text
size_in (open_value.List xs) = length xs
size_in _ = 0

abbrev pub absolute : ℤ → ℤ
absolute (pos n) = pos n
absolute (negsuc n) = pos (n + 1)

abbrev pub argument : List Value → ℕ → Value
argument args k = unwrap_or (slice_get args k) value.Nil

unfoldable pub given_by : Function → List Value → Result Value Failure
given_by Length args = Ok (value.Int (pos (size_in (out-Value (argument args 0)))))
given_by Text args = weighed (value.Str (chars (signed_decimal (int_of (argument args 0)))))
given_by Absolute args = in_range (absolute (int_of (argument args 0)))
given_by Least args = Ok (value.Int (if is_gt (int_cmp (int_of (argument args 0)) (int_of (argument args 1))) then int_of (argument args 1) else int_of (argument args 0)))
given_by Greatest args = Ok (value.Int (if is_lt (int_cmp (int_of (argument args 0)) (int_of (argument args 1))) then int_of (argument args 1) else int_of (argument args 0)))
