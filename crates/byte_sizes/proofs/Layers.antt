-- Equations of a list's size and of which lists have a spelling, by its elements.
use Rattle.std.proofs.Common.{◌≡◌, ℕ, ◌+◌, ◌-◌, ◌<◌, ◌^◌, List as Items, length, refl, sym, ap, ◌∙◌, arith}
use Rattle.std.specs.List.{sum_by, AllByRecursion}
use Rattle.std.proofs.lemmas.List.Sums.{sum_by-cons}
use Rattle.sf_value.specs.declared.value.Value.{Value, List, Row_of-Value, end_of-Value, more_of-Value, items-the_row-Value, items_hidden-the_row-Value-0}
use Rattle.sf_value.specs.declared.value.Value.TheBlock.{hidden-the_row-Value-0}
use Rattle.byte_sizes.specs.Sizes.{value_size, row_size, row_len}
use Rattle.byte_sizes.specs.Spelt.{IsShort, IsShortRow, AreShort, NestsWithin, RowNestsWithin, NestWithin, IsReal, IsRealRow, AreReal}

abbrev pub shown : {n : _} → Row_of-Value n → Items Value
shown {n} row = items-the_row-Value n row

pub row_len-is : {n : _} (row : Row_of-Value n) → row_len row ≡ length (shown row)
unfolding row_len
row_len-is end_of-Value = refl
row_len-is (more_of-Value value row) = omega (arith, row_len-is row)

row_size-is : {n : _} (row : Row_of-Value n) → row_size row ≡ sum_by value_size (shown row)
unfolding row_size
row_size-is end_of-Value = refl
row_size-is (more_of-Value value row) = ap (λ size. value_size value + size) (row_size-is row) ∙ sym (sum_by-cons value_size value (shown row))

row_short-is : {n : _} (row : Row_of-Value n) → IsShortRow row ≡ AllByRecursion IsShort (shown row)
unfolding IsShortRow
row_short-is end_of-Value = refl
row_short-is (more_of-Value value row) = λ i. IsShort value × row_short-is row i

row_nests-is : {n : _} (row : Row_of-Value n) (level : ℕ) → RowNestsWithin row level ≡ AllByRecursion (λ value. NestsWithin value level) (shown row)
unfolding RowNestsWithin
row_nests-is end_of-Value level = refl
row_nests-is (more_of-Value value row) level = λ i. NestsWithin value level × row_nests-is row level i

row_real-is : {n : _} (row : Row_of-Value n) → IsRealRow row ≡ AllByRecursion IsReal (shown row)
unfolding IsRealRow
row_real-is end_of-Value = refl
row_real-is (more_of-Value value row) = λ i. IsReal value × row_real-is row i

pub hidden-is : (values : Items Value) → shown (hidden-the_row-Value-0 values) ≡ values
hidden-is values = items_hidden-the_row-Value-0 values

pub size-List : (values : Items Value) → value_size (List values) ≡ 5 + sum_by value_size values
unfolding value_size
size-List values = ap (λ size. 5 + size) (row_size-is (hidden-the_row-Value-0 values) ∙ ap (λ items. sum_by value_size items) (hidden-is values))

pub short-List : (values : Items Value) → IsShort (List values) ≡ AreShort values
unfolding IsShort
short-List values =
    let row = hidden-the_row-Value-0 values in
    let len : row_len row ≡ length values = row_len-is row ∙ ap length (hidden-is values) in
    λ i. (len i < 2 ^ 32) × ((row_short-is row ∙ ap (λ items. AllByRecursion IsShort items) (hidden-is values)) i)

pub nests-List : (values : Items Value) (level : ℕ) → NestsWithin (List values) level ≡ NestWithin values level
unfolding NestsWithin
nests-List values level =
    let row = hidden-the_row-Value-0 values in
    λ i. (0 < level) × ((row_nests-is row (level - 1) ∙ ap (λ items. AllByRecursion (λ value. NestsWithin value (level - 1)) items) (hidden-is values)) i)

pub real-List : (values : Items Value) → IsReal (List values) ≡ AreReal values
unfolding IsReal
real-List values = row_real-is (hidden-the_row-Value-0 values) ∙ ap (λ items. AllByRecursion IsReal items) (hidden-is values)
