-- How much a value weighs.
use Rattle.std.specs.Prelude.{ℕ, ◌+◌, length}
use Rattle.std.specs.Str.{encode_utf8_all}
use Rattle.sf_value.specs.declared.value.Value.{Value, Int, Bool, Str, Nil, List', Entity, Row_of-Value, end_of-Value, more_of-Value}

unfoldable mutual
  -- a number, a truth and None 1; a text and an entity 1 and the bytes of the text or the key; a list 1 and its elements
  pub weight_of : Value → ℕ
  weight_of (Int n) = 1
  weight_of (Bool b) = 1
  weight_of (Str text) = 1 + length (encode_utf8_all text)
  weight_of Nil = 1
  weight_of (List' shape row) = 1 + row_weight row
  weight_of (Entity at) = 1 + length (encode_utf8_all at.key)

  pub row_weight : {n : _} → Row_of-Value n → ℕ
  row_weight end_of-Value = 0
  row_weight (more_of-Value value row) = weight_of value + row_weight row
