-- Whether two values are equal: of one kind, and equal in all their parts.
use Rattle.std.specs.Prelude.{Bool, true, false, not, ◌&&◌, ◌==◌, bytes_eq}
use Rattle.std.specs.Ordering.{int_eq}
use Rattle.sf_value.specs.declared.value.Value.{Value, Int, Bool as Truth, Str, Nil, List', Entity, Row_of-Value, end_of-Value, more_of-Value}

abbrev pub both_ways : Bool → Bool → Bool
both_ways true y = y
both_ways false y = not y

unfoldable mutual
  pub same_value : Value → Value → Bool
  same_value (Int x) (Int y) = int_eq x y
  same_value (Truth x) (Truth y) = both_ways x y
  same_value (Str x) (Str y) = bytes_eq x y
  same_value Nil Nil = true
  same_value (List' n xs) (List' m ys) = same_row xs ys
  same_value (Entity a) (Entity b) = a.class == b.class && bytes_eq a.key b.key
  same_value _ _ = false

  pub same_row : {n m : _} → Row_of-Value n → Row_of-Value m → Bool
  same_row end_of-Value end_of-Value = true
  same_row (more_of-Value x xs) (more_of-Value y ys) = same_value x y && same_row xs ys
  same_row _ _ = false
