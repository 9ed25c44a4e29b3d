-- Which request a line of JSON is (RFC 8259), or why it is none.
use Rattle.std.specs.Prelude.{ℕ, suc, Bool, false, ◌&&◌, ◌==◌, nat_eq, nat_le, List, [], ◌∷◌, length, slice_get, is_some, None, Some, Ok, Err, codes, if◌then◌else◌}
use Rattle.std.specs.declared.option.Option.{Option}
use Rattle.std.specs.declared.result.Result.{Result}
use Rattle.std.specs.Option.{ok_or}
use Rattle.std.specs.List.{list_all}
use Rattle.std.specs.Str.{chars, encode_utf8_all}
use Rattle.std.specs.Str.Lossy.{utf8_valid_len}
use Rattle.serde_json.specs.Data.{Data, Items, no_items, item, Members, no_members, member}
use Rattle.serde_json.specs.Data as json
use Rattle.serde_json.specs.Read.{read}
use Rattle.serde_json.specs.Find.{get, as_str, as_array}
use Rattle.py_tree.specs.PlainProgram.{PlainParam}
use Rattle.py_tree.specs.ClassRules.{params_of}
use Rattle.py_tree.specs.Acceptance.{class_number, method_number}
use Rattle.sf_value.specs.declared.value.Value.{Value}
use Rattle.sf_value.specs.declared.Act.TheVariants as act
use Rattle.sf_value.specs.declared.Request.{Request}
use Rattle.program_meaning.specs.ClassTables.{Source, methods_of, init_of}
use Rattle.request_json.specs.Arguments.{◌>>?◌, args_of}
use Rattle.request_json.specs.declared.fault.LineFault.{LineFault}
use Rattle.request_json.specs.declared.fault.LineFault.TheVariants.{NotJson, NotRequest, UnknownClass, UnknownMethod, ArgumentCount, ArgumentType}

-- goes on where nothing is refused
infixl 10 ◌>>=◌
abbrev pub ◌>>=◌ : {A B : Type 0} → Result A LineFault → (A → Result B LineFault) → Result B LineFault
(Err fault) >>= f = Err fault
(Ok x) >>= f = f x

-- how many members an object has, and how many items an array
abbrev pub count_of : Members → ℕ
count_of no_members = 0
count_of (member key d ms) = suc (count_of ms)

abbrev pub length_of : Items → ℕ
length_of no_items = 0
length_of (item d ds) = suc (length_of ds)

-- an object of so many members
abbrev pub has_members : Data → ℕ → Bool
has_members (json.object ms) n = nat_eq (count_of ms) n
has_members _ n = false

-- an object has these keys and no other
abbrev pub has_keys : List (List ℕ) → Data → Bool
has_keys keys d = has_members d (length keys) && list_all (λ key. is_some (get key d)) keys

abbrev pub call_keys : List (List ℕ)
call_keys = codes "id" ∷ codes "class" ∷ codes "key" ∷ codes "method" ∷ codes "args" ∷ []

abbrev pub creation_keys : List (List ℕ)
creation_keys = codes "id" ∷ codes "class" ∷ codes "new" ∷ []

abbrev pub text_at : List ℕ → Data → Option (List ℕ)
text_at key d = get key d >>? as_str

abbrev pub array_at : List ℕ → Data → Option Items
array_at key d = get key d >>? as_array

-- an id has 1 to 64 bytes
abbrev pub is_id : List ℕ → Bool
is_id id = nat_le 1 (length (encode_utf8_all id)) && nat_le (length (encode_utf8_all id)) 64

abbrev pub id_of : List ℕ → Option (List ℕ)
id_of text = if is_id (chars text) then Some (chars text) else None

-- the parts of a request that are there in another form are refused together
abbrev pub id_in : Data → Result (List ℕ) LineFault
id_in d = ok_or (text_at (codes "id") d >>? id_of) NotRequest

abbrev pub text_in : List ℕ → Data → Result (List ℕ) LineFault
text_in key d = ok_or (text_at key d) NotRequest

abbrev pub array_in : List ℕ → Data → Result Items LineFault
array_in key d = ok_or (array_at key d) NotRequest

-- the number of the class, and of its method, that are named; `__init__` and `__key__` are no methods
abbrev pub class_of : Source → List ℕ → Result ℕ LineFault
class_of src name = ok_or (class_number src.names src.program name) UnknownClass

abbrev pub method_of : Source → ℕ → List ℕ → Result ℕ LineFault
method_of src class name = ok_or (method_number src.names src.program class name) UnknownMethod

-- as many arguments as parameters, each of the type that its parameter declares
abbrev pub arguments_of : Source → List PlainParam → Items → Result (List Value) LineFault
arguments_of src ps ds = if nat_eq (length_of ds) (length ps) then ok_or (args_of src ps ds) ArgumentType else Err ArgumentCount

abbrev pub call_of : Source → Data → Result Request LineFault
call_of src d =
    id_in d >>= λ id. text_in (codes "class") d >>= λ class_name. text_in (codes "key") d >>= λ key. text_in (codes "method") d >>= λ method_name. array_in (codes "args") d >>= λ items.
    class_of src class_name >>= λ class. method_of src class method_name >>= λ method. arguments_of src (params_of (slice_get (methods_of src class) method)) items >>= λ args.
    Ok (record { id = id; act = act.Call class (chars key) method args })

abbrev pub creation_of : Source → Data → Result Request LineFault
creation_of src d =
    id_in d >>= λ id. text_in (codes "class") d >>= λ class_name. array_in (codes "new") d >>= λ items.
    class_of src class_name >>= λ class. arguments_of src (params_of (init_of src class)) items >>= λ args.
    Ok (record { id = id; act = act.New class args })

-- an object with the keys of a call is one, an object with those of a creation is that, and nothing else is a request
abbrev pub of_data : Source → Data → Result Request LineFault
of_data src d = if has_keys call_keys d then call_of src d else (if has_keys creation_keys d then creation_of src d else Err NotRequest)

-- a line has at most this many bytes
abbrev pub longest : ℕ
longest = 1048576

-- the data of a line that is UTF-8
abbrev pub data_of : List ℕ → Option Data
data_of line = if utf8_valid_len line == length line then read line else None

-- the request that a line is, or the first refusal
abbrev pub reading_of : Source → List ℕ → Result Request LineFault
reading_of src line = ok_or (data_of line) NotJson >>= of_data src

-- what each refusal is printed as
abbrev pub text_of : LineFault → List ℕ
text_of NotJson = codes "not json"
text_of NotRequest = codes "not a request"
text_of UnknownClass = codes "unknown class"
text_of UnknownMethod = codes "unknown method"
text_of ArgumentCount = codes "argument count"
text_of ArgumentType = codes "argument type"
