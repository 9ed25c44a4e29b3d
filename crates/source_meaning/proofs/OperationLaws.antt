-- Laws of operators.
use Rattle.std.proofs.Common.{◌≡◌, ◌≢◌, ◌^◌, ℕ, ℤ, pos, negsuc, true, false, inl, inr, Ok, Err, List, if◌then◌else◌, sym, ap, ◌∙◌, Result, arith}
use Rattle.std.proofs.lemmas.Int.{ints}
use Rattle.std.proofs.lemmas.Bool.{lt-ltb}
use Rattle.std.specs.Ordering.{int_eq, nat_cmp}
use Rattle.std.specs.Int.{w128}
use Rattle.std.specs.Int.RustNames.{FitsSigned}
use Rattle.std.specs.Cmp.Lexicographic.{slice_cmp}
use Rattle.sf_value.specs.Arithmetic.{FloorDivides, HasNoQuotient, floor_quotient, floor_rest}
use Rattle.sf_value.proofs.FloorLaws.{floor_is}
use Rattle.sf_value.specs.declared.value.Value.{Value}
use Rattle.sf_value.specs.declared.value.Value.TheVariants as value
use Rattle.sf_value.specs.declared.Failure.{Failure}
use Rattle.program_meaning.specs.World.{zero_division_error, overflow_error}
use Rattle.program_meaning.specs.Operations.{fits, in_range, divided, order, text_of}

-- the order of a text and a value
pub texts_in_order : (a : List ℕ) (w : Value) (x y : List ℕ) → x ≡ a → y ≡ text_of w → slice_cmp nat_cmp x y ≡ order (value.Str a) w
texts_in_order a w x y same other = λ i. slice_cmp nat_cmp (same i) (other i)

other_than_zero : (y : ℤ) → y ≢ pos 0 → int_eq y (pos 0) ≡ false
other_than_zero y other = grind (arith, ints)

-- where the divisor isn't 0 the result counts
is_divided : (y : ℤ) (r : Result Value Failure) → y ≢ pos 0 → divided y r ≡ r
is_divided y r other = ap (λ b. if b then Err zero_division_error else r) (other_than_zero y other)

in_bounds : (n : ℤ) → FitsSigned w128 n → fits n ≡ true
in_bounds (pos n) fit = lt-ltb n (2 ^ 127) (omega (arith, ints, fit))
in_bounds (negsuc n) fit = lt-ltb n (2 ^ 127) (omega (arith, ints, fit))

pub in_range_here : (z n : ℤ) → FitsSigned w128 n → n ≡ z → in_range z ≡ Ok (value.Int n)
unfolding in_range
in_range_here z n fit same = ap in_range (sym same) ∙ ap (λ b. if b then Ok (value.Int n) else Err overflow_error) (in_bounds n fit)

pub quotient_given : (x y q r : ℤ) → y ≢ pos 0 → FitsSigned w128 q → FloorDivides x y q r → divided y (in_range (floor_quotient x y)) ≡ Ok (value.Int q)
quotient_given x y q r other fit by = is_divided y _ other ∙ in_range_here _ q fit (floor_is x y q r other by).0

pub quotient_refused : (x y : ℤ) → y ≢ pos 0 → HasNoQuotient x y → divided y (in_range (floor_quotient x y)) ≡ Err overflow_error
unfolding in_range
quotient_refused x y other (inl zero) = absurd (other zero)
quotient_refused x y other (inr least) = is_divided y _ other ∙ (λ i. in_range (floor_quotient (least.0 i) (least.1 i)))

pub rest_given : (x y q r : ℤ) → y ≢ pos 0 → FitsSigned w128 r → FloorDivides x y q r → divided y (in_range (floor_rest x y)) ≡ Ok (value.Int r)
rest_given x y q r other fit by = is_divided y _ other ∙ in_range_here _ r fit (floor_is x y q r other by).1
