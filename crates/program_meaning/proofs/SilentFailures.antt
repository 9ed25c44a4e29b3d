-- Operators and functions fail without a message.
use Rattle.std.proofs.Common.{◌≡◌, ℤ, pos, Bool, true, false, Result, Ok, Err, List, [], if◌then◌else◌, refl}
use Rattle.std.specs.Prelude.{nat_le}
use Rattle.std.specs.Ordering.{int_eq}
use Rattle.py_tree.specs.declared.expr.BinOp.{BinOp}
use Rattle.py_tree.specs.declared.expr.BinOp.TheVariants as op
use Rattle.py_tree.specs.ExpressionTypes.{Function, Length, Text, Absolute, Least, Greatest}
use Rattle.sf_value.specs.Arithmetic.{floor_quotient, floor_rest}
use Rattle.sf_value.specs.Weight.{weight_of}
use Rattle.sf_value.specs.declared.Failure.{Failure}
use Rattle.sf_value.specs.declared.value.Value.{Value, Value-F, out-Value}
use Rattle.sf_value.specs.declared.value.Value.TheVariants as value
use Rattle.sf_value.specs.declared.value.Value.TheOpen as open_value
use Rattle.program_meaning.specs.World.{size_limit, overflow_error, zero_division_error}
use Rattle.program_meaning.specs.Operations.{fits, in_range, weighed, int_of, combined, sum_with, divided, given_by}

-- a failure has no message, where there is one
abbrev pub FailsSilently : Result Value Failure → Type 0
FailsSilently (Ok v) = Unit {0}
FailsSilently (Err f) = f.message ≡ []

either_silent : (b : Bool) (r q : Result Value Failure) → FailsSilently r → FailsSilently q → FailsSilently (if b then r else q)
either_silent true r q first second = first
either_silent false r q first second = second

pub weighed_silent : (v : Value) → FailsSilently (weighed v)
unfolding weighed
weighed_silent v = either_silent (nat_le (weight_of v) 65536) (Ok v) (Err size_limit) tt refl

pub in_range_silent : (z : ℤ) → FailsSilently (in_range z)
unfolding in_range
in_range_silent z = either_silent (fits z) (Ok (value.Int z)) (Err overflow_error) tt refl

divided_silent : (y : ℤ) (r : Result Value Failure) → FailsSilently r → FailsSilently (divided y r)
divided_silent y r silent = either_silent (int_eq y (pos 0)) (Err zero_division_error) r refl silent

sum_silent : (layer : Value-F Value) (w : Value) → FailsSilently (sum_with layer w)
sum_silent (open_value.Int x) w = in_range_silent _
sum_silent (open_value.Bool b) w = tt
sum_silent (open_value.Str text) w = weighed_silent _
sum_silent open_value.Nil w = tt
sum_silent (open_value.List xs) w = weighed_silent _
sum_silent (open_value.Entity at) w = tt

pub combined_silent : (o : BinOp) (v w : Value) → FailsSilently (combined o v w)
unfolding combined
combined_silent op.Add v w = sum_silent (out-Value v) w
combined_silent op.Sub v w = in_range_silent _
combined_silent op.Mul v w = in_range_silent _
combined_silent op.FloorDiv v w = divided_silent (int_of w) (in_range (floor_quotient (int_of v) (int_of w))) (in_range_silent _)
combined_silent op.Mod v w = divided_silent (int_of w) (in_range (floor_rest (int_of v) (int_of w))) (in_range_silent _)

pub given_silent : (f : Function) (args : List Value) → FailsSilently (given_by f args)
unfolding given_by
given_silent Length args = tt
given_silent Text args = weighed_silent _
given_silent Absolute args = in_range_silent _
given_silent Least args = tt
given_silent Greatest args = tt
