-- The lines of requests: compact JSON with its keys in order, and LF.
use Rattle.std.specs.Prelude.{ℕ, ℤ, pos, negsuc, ◌^◌, Bool, false, ◌||◌, nat_lt, List, [], ◌∷◌, ◌++◌, codes, slice_get, Some, None, if◌then◌else◌}
use Rattle.std.specs.declared.option.Option.{Option}
use Rattle.std.specs.Str.{encode_utf8_all}
use Rattle.std.specs.Fmt.{signed_decimal}
use Rattle.serde_json.specs.Data.{Data, Items, no_members, member}
use Rattle.serde_json.specs.Data as json
use Rattle.serde_json.specs.Find.{of_integer}
use Rattle.serde_json.specs.Written.{compact_text}
use Rattle.py_tree.specs.PlainProgram.{PlainMethod, PlainClass}
use Rattle.py_tree.specs.ClassRules.{text_of}
use Rattle.sf_value.specs.declared.value.Value.{Value}
use Rattle.sf_value.specs.declared.Act.{Act}
use Rattle.sf_value.specs.declared.Act.TheVariants as act
use Rattle.sf_value.specs.declared.Request.{Request}
use Rattle.program_meaning.specs.ClassTables.{Source, methods_of}
use Rattle.request_json.specs.ReplyLines.{is_short}
use Rattle.request_json.specs.ValueData.{data_with, items_with}

-- an int fits 64 bits without a sign
abbrev pub is_natural : ℤ → Bool
is_natural (pos n) = nat_lt n (2 ^ 64)
is_natural (negsuc n) = false

-- an int is passed as a number where it fits 64 bits, with a sign or without, else as a text of its digits
abbrev pub passed_int : ℤ → Data
passed_int z = if is_short z || is_natural z then json.number (of_integer z) else json.string (signed_decimal z)

abbrev pub passed_data : Value → Data
passed_data = data_with passed_int

-- arguments, one after another
abbrev pub passed_items : List Value → Items
passed_items = items_with passed_int

-- the text of the name of a class and of a method; no text where there is none
abbrev pub class_text : Source → Option PlainClass → List ℕ
class_text src None = []
class_text src (Some c) = text_of src.names c.name

abbrev pub method_text : Source → Option PlainMethod → List ℕ
method_text src None = []
method_text src (Some m) = text_of src.names m.name

-- and by their numbers
abbrev pub class_called : Source → ℕ → List ℕ
class_called src class = class_text src (slice_get src.program class)

abbrev pub method_called : Source → ℕ → ℕ → List ℕ
method_called src class method = method_text src (slice_get (methods_of src class) method)

-- a call, and a creation, by the texts of their parts
abbrev pub call_data : List ℕ → List ℕ → List ℕ → List ℕ → Items → Data
call_data id class key method args =
    json.object (member (codes "args") (json.array args) (member (codes "class") (json.string class) (member (codes "id") (json.string id)
    (member (codes "key") (json.string key) (member (codes "method") (json.string method) no_members)))))

abbrev pub creation_data : List ℕ → List ℕ → Items → Data
creation_data id class args =
    json.object (member (codes "class") (json.string class) (member (codes "id") (json.string id) (member (codes "new") (json.array args) no_members)))

abbrev pub asked_data : Source → List ℕ → Act → Data
asked_data src id (act.Call class key method args) =
    call_data (encode_utf8_all id) (class_called src class) (encode_utf8_all key) (method_called src class method) (passed_items args)
asked_data src id (act.New class args) = creation_data (encode_utf8_all id) (class_called src class) (passed_items args)

abbrev pub request_data : Source → Request → Data
request_data src r = asked_data src r.id r.act

-- the text of a request, and its line
unfoldable pub request_text : Source → Request → List ℕ
request_text src r = compact_text (request_data src r)

unfoldable pub request_line : Source → Request → List ℕ
request_line src r = request_text src r ++ 10 ∷ []
