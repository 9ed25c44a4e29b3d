-- Verdicts on small files, worked out by hand.
use Rattle.std.proofs.Common.{◌≡◌, ℕ, List, [], ◌∷◌, ◌++◌, Option, Some, None, unwrap_or, refl, ap}
use Rattle.std.specs.Prelude.{codes, slice_get}
use Rattle.std.specs.FinMap as map
use Rattle.std.specs.Char.{encode_utf8}
use Rattle.std.specs.Fmt.{digits}
use Rattle.std.specs.Str.{chars, is_utf8}
use Rattle.std.specs.Str.Lossy.{utf8_valid_len}
use Rattle.serde_json.proofs.OnLiterals.{serde_json_on_literals}
use Rattle.py_tree.specs.declared.names.Place.{Place}
use Rattle.py_tree.specs.PlainTypes.{WInt}
use Rattle.py_tree.specs.PlainProgram.{PlainMethod}
use Rattle.py_tree.specs.ClassRules.{text_of, is_init, is_key, is_called, methods_of as methods_among}
use Rattle.sf_value.specs.Keys.{key_cmp}
use Rattle.sf_value.specs.declared.Act.TheVariants as act
use Rattle.sf_value.specs.declared.Outcome.{Outcome}
use Rattle.sf_value.specs.declared.Outcome.TheVariants as outcome
use Rattle.sf_value.specs.declared.Request.{Request}
use Rattle.program_meaning.specs.ClassTables.{Source, methods_of}
use Rattle.program_meaning.specs.World.{Fell, no_entity, reading}
use Rattle.program_meaning.specs.Calls.{if_there, in_state, run_body, enter, calls_at}
use Rattle.program_meaning.specs.RequestRun.{at_first, ended, is_too_heavy, begin, run}
use Rattle.program_meaning.specs.Serial.{no_state, serial_outcomes}
use Rattle.request_json.specs.Arguments.{args_of}
use Rattle.request_json.specs.ReplyLines.{kind_name}
use Rattle.request_json.specs.Actions.{whole_from, rest_from}
use Rattle.run_audit.specs.declared.verdict.Verdict.{Verdict}
use Rattle.run_audit.specs.declared.verdict.Verdict.TheVariants as verdict
use Rattle.run_audit.specs.Verdict.{read_lines, differing, or_bad, verdict_of}
use Rattle.run_audit.specs.Fronts.{decided}

-- ---- of any program

-- a file without a byte has no entry
empty_file : (src : Source) → verdict_of src [] ≡ verdict.Serial 0
unfolding verdict_of differing read_lines whole_from rest_from
empty_file src = refl

-- and nothing is decided before one
empty_front : (src : Source) → decided src [] ≡ None
unfolding decided differing read_lines whole_from rest_from
empty_front src = refl

-- an empty line is no request
empty_line : (src : Source) → verdict_of src (10 ∷ []) ≡ verdict.BadRun 1
unfolding verdict_of differing read_lines whole_from rest_from serde_json_on_literals utf8_valid_len is_utf8
empty_line src = refl

-- ---- of a class Item with a method `price` that takes nothing

abbrev place : Place
place = record { line = 1; col = 1 }

abbrev names : List (List ℕ)
names = codes "Item" ∷ codes "price" ∷ []

abbrev price : PlainMethod
price = record { name = 1; place = place; params = []; result = Some (WInt place); body = [] }

abbrev src : Source
src = record { program = record { name = 0; place = place; members = price ∷ [] } ∷ []; names = names }

-- a call on an entity that isn't there, its reply, another reply, and a call with the same id
abbrev asks : List ℕ
asks = codes "{\"args\":[],\"class\":\"Item\",\"id\":\"a\",\"key\":\"x\",\"method\":\"price\"}"

abbrev says : List ℕ
says = codes "{\"error\":\"NoEntity\",\"id\":\"a\",\"message\":\"\",\"seq\":1}"

abbrev lies : List ℕ
lies = codes "{\"error\":\"NoEntity\",\"id\":\"a\",\"message\":\"\",\"seq\":2}"

abbrev again : List ℕ
again = codes "{\"args\":[],\"class\":\"Item\",\"id\":\"a\",\"key\":\"y\",\"method\":\"price\"}"

abbrev asked : Request
asked = record { id = codes "a"; act = act.Call 0 (codes "x") 0 [] }

fails : (run src no_state asked.act).outcome ≡ outcome.Failed no_entity
unfolding run is_too_heavy begin calls_at enter encode_utf8
fails =
    ap (λ held. (ended no_state (if_there held (Fell no_entity (reading (at_first no_state) (0, codes "x")) 99999)
    (run_body (in_state src (calls_at src 63) (0, codes "x")) (slice_get (methods_of src 0) 0) [] (reading (at_first no_state) (0, codes "x")) 99999))).outcome)
    (map.get-empty key_cmp (0, codes "x"))

-- the verdict on one entry that says this, and a bad line or none, where its request comes to this outcome
abbrev judged : Option ℕ → List ℕ → Outcome → Verdict
judged bad said o = unwrap_or (or_bad bad (differing 1 (record { asked = asked; said = said } ∷ []) (o ∷ []))) (verdict.Serial 1)

good_pair : verdict_of src (asks ++ 10 ∷ (says ++ 10 ∷ [])) ≡ verdict.Serial 1
unfolding verdict_of read_lines differing serial_outcomes whole_from rest_from serde_json_on_literals utf8_valid_len is_utf8 chars encode_utf8 is_init is_key is_called text_of methods_among args_of kind_name digits
good_pair = ap (judged None says) fails

changed_reply : verdict_of src (asks ++ 10 ∷ (lies ++ 10 ∷ [])) ≡ verdict.Differs 1 says lies
unfolding verdict_of read_lines differing serial_outcomes whole_from rest_from serde_json_on_literals utf8_valid_len is_utf8 chars encode_utf8 is_init is_key is_called text_of methods_among args_of kind_name digits
changed_reply = ap (judged None lies) fails

-- the reply of a last request is missing
first_line_alone : verdict_of src (asks ++ 10 ∷ []) ≡ verdict.BadRun 2
unfolding verdict_of read_lines differing whole_from rest_from serde_json_on_literals utf8_valid_len is_utf8 chars encode_utf8 is_init is_key is_called text_of methods_among args_of
first_line_alone = refl

-- but what comes behind it may be it
first_line_undecided : decided src (asks ++ 10 ∷ []) ≡ None
unfolding decided read_lines differing whole_from rest_from serde_json_on_literals utf8_valid_len is_utf8 chars encode_utf8 is_init is_key is_called text_of methods_among args_of
first_line_undecided = refl

id_twice : verdict_of src (asks ++ 10 ∷ (says ++ 10 ∷ (again ++ 10 ∷ []))) ≡ verdict.BadRun 3
unfolding verdict_of read_lines differing serial_outcomes whole_from rest_from serde_json_on_literals utf8_valid_len is_utf8 chars encode_utf8 is_init is_key is_called text_of methods_among args_of kind_name digits
id_twice = ap (judged (Some 3) says) fails

-- an entry that differs is told before a bad line behind it
differs_first : verdict_of src (asks ++ 10 ∷ (lies ++ 10 ∷ (again ++ 10 ∷ []))) ≡ verdict.Differs 1 says lies
unfolding verdict_of read_lines differing serial_outcomes whole_from rest_from serde_json_on_literals utf8_valid_len is_utf8 chars encode_utf8 is_init is_key is_called text_of methods_among args_of kind_name digits
differs_first = ap (judged (Some 3) lies) fails
