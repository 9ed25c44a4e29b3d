-- Small lines and arguments, with what the rules say that they are.
use Rattle.std.proofs.Common.{◌≡◌, ℕ, pos, negsuc, ◌^◌, ◌-◌, true, Some, None, Ok, Err, List, [], ◌∷◌, refl}
use Rattle.std.specs.Prelude.{codes, replicate}
use Rattle.std.specs.Str.{chars, is_utf8}
use Rattle.std.specs.Str.Lossy.{utf8_valid_len}
use Rattle.py_tree.specs.declared.names.Place.{Place}
use Rattle.py_tree.specs.PlainTypes.{TInt, TBool, TStr, TNil, TList, TOptional, TEntity, WInt, WStr}
use Rattle.py_tree.specs.PlainProgram.{PlainMethod}
use Rattle.py_tree.specs.ClassRules.{text_of, is_init, is_key, is_called, methods_of as methods_among, init_of as init_among}
use Rattle.serde_json.specs.Data.{item, no_items}
use Rattle.serde_json.specs.Data as json
use Rattle.serde_json.proofs.OnLiterals.{serde_json_on_literals}
use Rattle.sf_value.specs.declared.value.Value.TheVariants as value
use Rattle.sf_value.specs.declared.Act.TheVariants as act
use Rattle.program_meaning.specs.ClassTables.{Source}
use Rattle.request_json.specs.declared.fault.LineFault.TheVariants.{NotJson, NotRequest, UnknownClass, UnknownMethod, ArgumentCount, ArgumentType}
use Rattle.request_json.specs.Arguments.{int_of_text, int_of, value_of, args_of}
use Rattle.request_json.specs.RequestLines.{reading_of}

-- ints as texts: zeros in front, a minus, the ends of the range, 64 and 65 zeros, and what is no int
zero_one : int_of_text (codes "01") ≡ Some (pos 1)
unfolding int_of_text
zero_one = refl

minus_zero : int_of_text (codes "-0") ≡ Some (pos 0)
unfolding int_of_text
minus_zero = refl

least : int_of_text (codes "-170141183460469231731687303715884105728") ≡ Some (negsuc (2 ^ 127 - 1))
unfolding int_of_text
least = refl

greatest : int_of_text (codes "170141183460469231731687303715884105727") ≡ Some (pos (2 ^ 127 - 1))
unfolding int_of_text
greatest = refl

past_least : int_of_text (codes "-170141183460469231731687303715884105729") ≡ None
unfolding int_of_text
past_least = refl

past_greatest : int_of_text (codes "170141183460469231731687303715884105728") ≡ None
unfolding int_of_text
past_greatest = refl

zeros_64 : int_of_text (replicate 64 48) ≡ Some (pos 0)
unfolding int_of_text
zeros_64 = refl

zeros_65 : int_of_text (replicate 65 48) ≡ None
unfolding int_of_text
zeros_65 = refl

plus_one : int_of_text (codes "+1") ≡ None
unfolding int_of_text
plus_one = refl

blank_one : int_of_text (codes " 1") ≡ None
unfolding int_of_text
blank_one = refl

no_digit : int_of_text (codes "-") ≡ None
unfolding int_of_text
no_digit = refl

no_text : int_of_text [] ≡ None
unfolding int_of_text
no_text = refl

-- a number that fits 64 bits without a sign
wide_number : int_of (json.number (json.unsigned (2 ^ 64 - 1))) ≡ Some (pos (2 ^ 64 - 1))
wide_number = refl

abbrev place : Place
place = record { line = 1; col = 1 }

-- the names of a program: a class Item with a key `name`, a `cost`, and a method `price` that takes an int
abbrev names : List (List ℕ)
names = codes "Item" ∷ codes "__init__" ∷ codes "__key__" ∷ codes "price" ∷ codes "name" ∷ codes "cost" ∷ []

abbrev init : PlainMethod
init = record {
  name = 1;
  place = place;
  params = record { name = 4; ty = Some (WStr place); place = place } ∷ record { name = 5; ty = Some (WInt place); place = place } ∷ [];
  result = None;
  body = [];
}

abbrev key : PlainMethod
key = record { name = 2; place = place; params = []; result = None; body = [] }

abbrev price : PlainMethod
price = record { name = 3; place = place; params = record { name = 5; ty = Some (WInt place); place = place } ∷ []; result = Some (WInt place); body = [] }

abbrev src : Source
src = record { program = record { name = 0; place = place; members = init ∷ key ∷ price ∷ [] } ∷ []; names = names }

-- a value of each type
a_list : value_of src (TList (TOptional TInt)) (json.array (item (json.string (codes "7")) (item json.null no_items))) ≡ Some (value.List (value.Int (pos 7) ∷ value.Nil ∷ []))
unfolding int_of_text
a_list = refl

an_entity : value_of src (TEntity 0) (json.string (codes "a")) ≡ Some (value.Entity (record { class = 0; key = codes "a" }))
unfolding chars
an_entity = refl

a_bool : value_of src TBool (json.boolean true) ≡ Some (value.Bool true)
a_bool = refl

nothing : value_of src TNil json.null ≡ Some value.Nil
nothing = refl

a_text : value_of src TStr (json.string (codes "a")) ≡ Some (value.Str (codes "a"))
unfolding chars
a_text = refl

no_list : value_of src (TList TInt) (json.array (item json.null no_items)) ≡ None
no_list = refl

-- lines that are refused, by the order of their causes
open_brace : reading_of src (codes "{") ≡ Err NotJson
unfolding serde_json_on_literals utf8_valid_len is_utf8 chars
open_brace = refl

an_array : reading_of src (codes "[]") ≡ Err NotRequest
unfolding serde_json_on_literals utf8_valid_len is_utf8 chars
an_array = refl

empty_id : reading_of src (codes "{\"id\":\"\",\"class\":\"Itm\",\"new\":[\"a\",1]}") ≡ Err NotRequest
unfolding serde_json_on_literals utf8_valid_len is_utf8 chars
empty_id = refl

no_class : reading_of src (codes "{\"id\":\"a\",\"class\":\"Itm\",\"new\":[]}") ≡ Err UnknownClass
unfolding serde_json_on_literals utf8_valid_len is_utf8 chars
no_class = refl

no_method : reading_of src (codes "{\"id\":\"a\",\"class\":\"Item\",\"key\":\"a\",\"method\":\"__key__\",\"args\":[1]}") ≡ Err UnknownMethod
unfolding serde_json_on_literals utf8_valid_len is_utf8 chars is_init is_key is_called text_of methods_among
no_method = refl

too_few : reading_of src (codes "{\"id\":\"a\",\"class\":\"Item\",\"new\":[1]}") ≡ Err ArgumentCount
unfolding serde_json_on_literals utf8_valid_len is_utf8 chars is_init is_key is_called text_of init_among
too_few = refl

another_type : reading_of src (codes "{\"id\":\"a\",\"class\":\"Item\",\"new\":[\"a\",true]}") ≡ Err ArgumentType
unfolding serde_json_on_literals utf8_valid_len is_utf8 chars is_init is_key is_called text_of init_among args_of
another_type = refl

-- and a call and a creation
a_call : reading_of src (codes "{\"id\":\"b\",\"class\":\"Item\",\"key\":\"a\",\"method\":\"price\",\"args\":[\"-1\"]}") ≡ Ok (record { id = codes "b"; act = act.Call 0 (codes "a") 0 (value.Int (negsuc 0) ∷ []) })
unfolding serde_json_on_literals utf8_valid_len is_utf8 chars is_init is_key is_called text_of methods_among args_of int_of_text
a_call = refl

a_creation : reading_of src (codes "{\"new\":[\"a\",3],\"class\":\"Item\",\"id\":\"c\"}") ≡ Ok (record { id = codes "c"; act = act.New 0 (value.Str (codes "a") ∷ value.Int (pos 3) ∷ []) })
unfolding serde_json_on_literals utf8_valid_len is_utf8 chars is_init is_key is_called text_of init_among args_of
a_creation = refl
