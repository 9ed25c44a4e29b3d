-- What is light has a spelling.
use Rattle.std.proofs.Common.{ℕ, ◌-◌, ◌*◌, ◌≤◌, List as Items, [], ◌∷◌, arith}
use Rattle.std.specs.List.{AllByRecursion}
use Rattle.sf_value.specs.Weight.{weight_of, row_weight}
use Rattle.sf_value.specs.declared.Act.{Act}
use Rattle.sf_value.specs.declared.Act.TheVariants.{Call, New}
use Rattle.sf_value.specs.declared.Held.{Held}
use Rattle.sf_value.specs.declared.Outcome.{Outcome}
use Rattle.sf_value.specs.declared.Outcome.TheVariants as outcomes
use Rattle.sf_value.specs.declared.Request.{Request}
use Rattle.sf_value.specs.declared.value.Value.{Value, Int, Bool as Truth, Str, Nil, List', Entity, Row_of-Value, end_of-Value, more_of-Value}
use Rattle.byte_sizes.specs.Sizes.{text_size, ref_size, value_size, row_size}
use Rattle.byte_sizes.specs.Spelt.{IsShortText, IsShort, NestsWithin, IsReal, AreSpelt, IsSpeltAct, IsRealRequest, IsRealOutcome, IsRealHeld, IsReadValue, IsReadRequest, IsReadOutcome, IsReadHeld}
use Rattle.byte_sizes.proofs.Small.{small_is_short}
use Rattle.byte_sizes.specs.LightThings.{IsLightWithin, IsLightText, AreLightValues, IsLightAct, IsLightRequest, IsLightOutcome, IsLightHeld}

mutual
  unfolding weight_of row_weight text_size ref_size value_size row_size

  pub size_by_weight : (value : Value) → value_size value ≤ 17 * weight_of value
  size_by_weight (Int n) = omega arith
  size_by_weight (Truth b) = omega arith
  size_by_weight (Str text) = omega arith
  size_by_weight Nil = omega arith
  size_by_weight (List' shape row) = omega (arith, row_by_weight row)
  size_by_weight (Entity at) = omega arith

  row_by_weight : {n : _} (row : Row_of-Value n) → row_size row ≤ 17 * row_weight row
  row_by_weight end_of-Value = omega arith
  row_by_weight (more_of-Value value row) = omega (arith, size_by_weight value, row_by_weight row)

short : {level : ℕ} (value : Value) → IsLightWithin level value → IsShort value
short value light = small_is_short value (omega (arith, light.weight, size_by_weight value))

short_text : (text : Items ℕ) → IsLightText text → IsShortText text
short_text text light = omega (arith, light.bytes)

each_short : (values : Items Value) → AllByRecursion (IsLightWithin 63) values → AllByRecursion IsShort values
each_short [] light = tt
each_short (value ∷ values) light = (short value light.0, each_short values light.1)

each_nests : (values : Items Value) → AllByRecursion (IsLightWithin 63) values → AllByRecursion (λ value. NestsWithin value (64 - 1)) values
each_nests [] light = tt
each_nests (value ∷ values) light = (light.0.nests, each_nests values light.1)

spelt_values : (values : Items Value) → AreLightValues values → AreSpelt values
spelt_values values light = ((light.count, each_short values light.each), (omega arith, each_nests values light.each))

spelt_act : (act : Act) → IsLightAct act → IsSpeltAct act
spelt_act (Call class key method args) light = (short_text key light.0, spelt_values args light.1)
spelt_act (New class args) light = spelt_values args light

pub values_spelt : (value : Value) → IsLightWithin 64 value → IsReal value → IsReadValue value
values_spelt value light real = ((short value light, light.nests), real)

pub requests_spelt : (request : Request) → IsLightRequest request → IsRealRequest request → IsReadRequest request
requests_spelt request light real = ((short_text request.id light.id, spelt_act request.act light.act), real)

pub outcomes_spelt : (outcome : Outcome) → IsLightOutcome outcome → IsRealOutcome outcome → IsReadOutcome outcome
outcomes_spelt (outcomes.Value value) light real = ((short value light, light.nests), real)
outcomes_spelt (outcomes.Failed failure) light real = ((light.kind, short_text failure.message light.message), real)

pub records_spelt : (held : Held) → IsLightHeld held → IsRealHeld held → IsReadHeld held
records_spelt held light real = ((short_text held.at.key light.key, spelt_values held.fields.fields light.fields), real)
