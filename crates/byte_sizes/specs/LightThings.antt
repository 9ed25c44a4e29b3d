-- What is light has a spelling.
use Rattle.std.specs.Prelude.{ℕ, ◌^◌, ◌*◌, ◌<◌, ◌≤◌, List as Items, length}
use Rattle.std.specs.Int.{IsInRange}
use Rattle.std.specs.List.{AllByRecursion}
use Rattle.std.specs.Str.{encode_utf8_all}
use Rattle.sf_value.specs.Weight.{weight_of}
use Rattle.sf_value.specs.declared.Act.{Act}
use Rattle.sf_value.specs.declared.Act.TheVariants.{Call, New}
use Rattle.sf_value.specs.declared.Failure.{Failure}
use Rattle.sf_value.specs.declared.Held.{Held}
use Rattle.sf_value.specs.declared.Outcome.{Outcome}
use Rattle.sf_value.specs.declared.Outcome.TheVariants as outcomes
use Rattle.sf_value.specs.declared.Request.{Request}
use Rattle.sf_value.specs.declared.value.Value.{Value}
use Rattle.byte_sizes.specs.Sizes.{value_size}
use Rattle.byte_sizes.specs.Spelt.{IsShort, NestsWithin, IsReal, IsRealRequest, IsRealOutcome, IsRealHeld, IsReadValue, IsReadRequest, IsReadOutcome, IsReadHeld}

-- a value weighs at most 65,536, and its lists nest at most so deep
pub record IsLightWithin (level : ℕ) (value : Value) : Type 0 where
  pub weight : weight_of value ≤ 65536
  pub nests : NestsWithin value level

-- a text that a value of this weight may have
pub record IsLightText (text : Items ℕ) : Type 0 where
  pub bytes : length (encode_utf8_all text) ≤ 65536

-- arguments or fields, whose list is a level of the 64 itself
pub record AreLightValues (values : Items Value) : Type 0 where
  pub count : length values < 2 ^ 32
  pub each : AllByRecursion (IsLightWithin 63) values

abbrev pub IsLightAct : Act → Type 0
IsLightAct (Call class key method args) = IsLightText key × AreLightValues args
IsLightAct (New class args) = AreLightValues args

pub record IsLightRequest (request : Request) : Type 0 where
  pub id : IsLightText request.id
  pub act : IsLightAct request.act

-- a failure has one of the twelve kinds
pub record IsLightFailure (failure : Failure) : Type 0 where
  pub kind : IsInRange 1 12 failure.kind
  pub message : IsLightText failure.message

abbrev pub IsLightOutcome : Outcome → Type 0
IsLightOutcome (outcomes.Value value) = IsLightWithin 64 value
IsLightOutcome (outcomes.Failed failure) = IsLightFailure failure

pub record IsLightHeld (held : Held) : Type 0 where
  pub key : IsLightText held.at.key
  pub fields : AreLightValues held.fields.fields

-- what is light, of numbers and texts that a program can hold, has a spelling
abbrev pub ValuesAreSpelt : Type 0
ValuesAreSpelt = (value : Value) → IsLightWithin 64 value → IsReal value → IsReadValue value

abbrev pub RequestsAreSpelt : Type 0
RequestsAreSpelt = (request : Request) → IsLightRequest request → IsRealRequest request → IsReadRequest request

abbrev pub OutcomesAreSpelt : Type 0
OutcomesAreSpelt = (outcome : Outcome) → IsLightOutcome outcome → IsRealOutcome outcome → IsReadOutcome outcome

abbrev pub RecordsAreSpelt : Type 0
RecordsAreSpelt = (held : Held) → IsLightHeld held → IsRealHeld held → IsReadHeld held

-- a value takes at most so many bytes for each unit of its weight
abbrev pub SizesByWeight : Type 0
SizesByWeight = (value : Value) → value_size value ≤ 17 * weight_of value

-- what takes fewer bytes than 2^32 has no part that is too long
abbrev pub SmallAreShort : Type 0
SmallAreShort = (value : Value) → value_size value < 2 ^ 32 → IsShort value
