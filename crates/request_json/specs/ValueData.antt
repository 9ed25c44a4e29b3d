-- The data of a value in a line, but for the form of its ints.
use Rattle.std.specs.Prelude.{ℤ, List, map as over}
use Rattle.std.specs.Str.{encode_utf8_all}
use Rattle.serde_json.specs.Data.{Data, Items}
use Rattle.serde_json.specs.Data as json
use Rattle.serde_json.specs.View.{items_of}
use Rattle.sf_value.specs.declared.value.Value.{Value, Value-F, fold-Value}
use Rattle.sf_value.specs.declared.value.Value.TheOpen as open'

-- one level, where a list's elements have their data: an entity is its key, and None is null
abbrev pub step_with : (ℤ → Data) → Value-F Data → Data
step_with ints (open'.Int z) = ints z
step_with ints (open'.Bool b) = json.boolean b
step_with ints (open'.Str text) = json.string (encode_utf8_all text)
step_with ints open'.Nil = json.null
step_with ints (open'.List items) = json.array (items_of items)
step_with ints (open'.Entity at) = json.string (encode_utf8_all at.key)

abbrev pub data_with : (ℤ → Data) → Value → Data
data_with ints = fold-Value Data (step_with ints)

abbrev pub items_with : (ℤ → Data) → List Value → Items
items_with ints values = items_of (over (data_with ints) values)
