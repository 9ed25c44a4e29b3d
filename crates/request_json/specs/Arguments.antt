-- Which value an argument of a line is, by the type that its parameter declares.
use Rattle.std.specs.Prelude.{ℕ, ◌^◌, ℤ, pos, neg_ℤ, Bool, ◌&&◌, ◌==◌, nat_lt, nat_le, List, [], ◌∷◌, length, drop, is_some, None, Some, if◌then◌else◌}
use Rattle.std.specs.declared.option.Option.{Option}
use Rattle.std.specs.Option.{option_map}
use Rattle.std.specs.Char.{is_ascii_digit}
use Rattle.std.specs.List.{list_all, position_from}
use Rattle.std.specs.Str.{chars}
use Rattle.std.specs.Str.Parse.{digits_value, starts_with_minus}
use Rattle.serde_json.specs.Data.{Data, Items, no_items, item}
use Rattle.serde_json.specs.Data as json
use Rattle.serde_json.specs.Find.{as_null, as_bool, as_str, as_array, as_integer}
use Rattle.py_tree.specs.PlainTypes.{PlainTy, TInt, TBool, TStr, TNil, TList, TOptional, TEntity, PlainWritten, type_of}
use Rattle.py_tree.specs.PlainProgram.{PlainParam}
use Rattle.sf_value.specs.declared.value.Value.{Value}
use Rattle.sf_value.specs.declared.value.Value.TheVariants as value
use Rattle.program_meaning.specs.ClassTables.{Source}

-- goes on with a value, where there is one
infixl 10 ◌>>?◌
abbrev pub ◌>>?◌ : {A B : Type 0} → Option A → (A → Option B) → Option B
None >>? f = None
(Some x) >>? f = f x

-- 1 to 64 decimal digits
abbrev pub is_numeral : List ℕ → Bool
is_numeral text = nat_le 1 (length text) && nat_le (length text) 64 && list_all is_ascii_digit text

-- the int that digits spell, from 0 to 2^127-1
abbrev pub int_of_digits : List ℕ → Option ℤ
int_of_digits text = if is_numeral text && nat_lt (digits_value 10 text) (2 ^ 127) then Some (pos (digits_value 10 text)) else None

-- and behind a minus, from -2^127 to 0
abbrev pub int_behind_minus : List ℕ → Option ℤ
int_behind_minus text = if is_numeral text && nat_le (digits_value 10 text) (2 ^ 127) then Some (neg_ℤ (pos (digits_value 10 text))) else None

-- the int that a text of an optional minus and digits spells
unfoldable pub int_of_text : List ℕ → Option ℤ
int_of_text text = if starts_with_minus text then int_behind_minus (drop 1 text) else int_of_digits text

-- an int is a whole number that fits 64 bits, with a sign or without, or such a text
abbrev pub int_of : Data → Option ℤ
int_of json.null = None
int_of (json.boolean b) = None
int_of (json.number n) = as_integer n
int_of (json.string text) = int_of_text text
int_of (json.array ds) = None
int_of (json.object ms) = None

-- what f makes of these items, where it makes something of each
abbrev pub each_of : {A : Type 0} → (Data → Option A) → Items → Option (List A)
each_of f no_items = Some []
each_of f (item d ds) = f d >>? λ x. each_of f ds >>? λ xs. Some (x ∷ xs)

-- the number of the class with this name
abbrev pub class_named : Source → ℕ → Option ℕ
class_named src name = position_from (λ c. c.name == name) 0 src.program

-- a value of each type: a bool is true or false, None is null, a str is a text
abbrev pub int_value : Data → Option Value
int_value d = option_map value.Int (int_of d)

abbrev pub bool_value : Data → Option Value
bool_value d = option_map value.Bool (as_bool d)

abbrev pub nil_value : Data → Option Value
nil_value d = option_map (λ _. value.Nil) (as_null d)

abbrev pub str_value : Data → Option Value
str_value d = option_map (λ text. value.Str (chars text)) (as_str d)

-- a list is an array of values of its elements' type
abbrev pub list_value : (Data → Option Value) → Data → Option Value
list_value element d = option_map value.List (as_array d >>? each_of element)

-- an Optional is null, or what it may be besides
abbrev pub optional_value : (Data → Option Value) → Data → Option Value
optional_value inner d = if is_some (as_null d) then Some value.Nil else inner d

-- an entity is its key, of the class that is declared
abbrev pub entity_value : Source → ℕ → Data → Option Value
entity_value src name d = class_named src name >>? λ class. option_map (λ key. value.Entity (record { class = class; key = chars key })) (as_str d)

-- the value of this type that an argument is
abbrev pub value_of : Source → PlainTy → Data → Option Value
value_of src TInt d = int_value d
value_of src TBool d = bool_value d
value_of src TStr d = str_value d
value_of src TNil d = nil_value d
value_of src (TList element) d = list_value (value_of src element) d
value_of src (TOptional inner) d = optional_value (value_of src inner) d
value_of src (TEntity class) d = entity_value src class d

-- the values of this type that the items of an array are
abbrev pub values_of : Source → PlainTy → Items → Option (List Value)
values_of src ty ds = each_of (value_of src ty) ds

-- of the type that a parameter declares
abbrev pub arg_of : Source → Option PlainWritten → Data → Option Value
arg_of src None d = None
arg_of src (Some ty) d = value_of src (type_of ty) d

-- one argument for each parameter
unfoldable pub args_of : Source → List PlainParam → Items → Option (List Value)
args_of src [] no_items = Some []
args_of src [] (item d ds) = None
args_of src (p ∷ ps) no_items = None
args_of src (p ∷ ps) (item d ds) = arg_of src p.ty d >>? λ v. args_of src ps ds >>? λ vs. Some (v ∷ vs)
