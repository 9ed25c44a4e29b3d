-- What takes fewer bytes than 2^32 has no part that is too long.
use Rattle.std.proofs.Common.{◌+◌, ◌≤◌, ◌<◌, ◌^◌, List as Items, arith}
use Rattle.std.proofs.Math.Path.{transport}
use Rattle.std.specs.List.{sum_by}
use Rattle.sf_value.specs.declared.value.Value.{Value, Int, Bool as Truth, Str, Nil, List, List', Entity, Row_of-Value, end_of-Value, more_of-Value}
use Rattle.byte_sizes.specs.Sizes.{text_size, ref_size, value_size, row_size, row_len}
use Rattle.byte_sizes.specs.Spelt.{IsShort, IsShortRow, AreShort}
use Rattle.byte_sizes.proofs.Layers.{size-List, short-List}

takes_some : (value : Value) → 1 ≤ value_size value
unfolding value_size
takes_some (Int n) = omega arith
takes_some (Truth b) = omega arith
takes_some (Str text) = omega arith
takes_some Nil = omega arith
takes_some (List' shape row) = omega arith
takes_some (Entity at) = omega arith

row_counts : {n : _} (row : Row_of-Value n) → row_len row ≤ row_size row
unfolding row_len row_size
row_counts end_of-Value = omega arith
row_counts (more_of-Value value row) = omega (arith, takes_some value, row_counts row)

mutual
  unfolding text_size ref_size value_size row_size IsShort IsShortRow

  pub small_is_short : (value : Value) → value_size value < 2 ^ 32 → IsShort value
  small_is_short (Int n) h = tt
  small_is_short (Truth b) h = tt
  small_is_short (Str text) h = omega (arith, h)
  small_is_short Nil h = tt
  small_is_short (List' shape row) h = (omega (arith, h, row_counts row), small_row row (omega (arith, h)))
  small_is_short (Entity at) h = omega (arith, h)

  small_row : {n : _} (row : Row_of-Value n) → row_size row < 2 ^ 32 → IsShortRow row
  small_row end_of-Value h = tt
  small_row (more_of-Value value row) h = (small_is_short value (omega (arith, h)), small_row row (omega (arith, h)))

-- so have values that take so few together
pub small_are_short : (values : Items Value) → 5 + sum_by value_size values < 2 ^ 32 → AreShort values
small_are_short values h = transport (short-List values) (small_is_short (List values) (omega (arith, h, size-List values)))
