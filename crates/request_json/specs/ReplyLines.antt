-- The lines of replies: compact JSON with its keys in order, and LF.
use Rattle.std.specs.Prelude.{ℕ, ℤ, pos, negsuc, ◌^◌, Bool, ◌==◌, nat_lt, List, [], ◌∷◌, ◌++◌, codes, if◌then◌else◌}
use Rattle.std.specs.Str.{encode_utf8_all}
use Rattle.std.specs.Fmt.{signed_decimal}
use Rattle.serde_json.specs.Data.{Data}
use Rattle.serde_json.specs.Data as json
use Rattle.serde_json.specs.Find.{of_integer}
use Rattle.serde_json.specs.Written.{compact_text}
use Rattle.sf_value.specs.declared.value.Value.{Value}
use Rattle.sf_value.specs.declared.Failure.{Failure}
use Rattle.sf_value.specs.declared.Outcome.{Outcome}
use Rattle.sf_value.specs.declared.Outcome.TheVariants as outcome
use Rattle.request_json.specs.ValueData.{data_with}

-- an int fits 64 bits with a sign
abbrev pub is_short : ℤ → Bool
is_short (pos n) = nat_lt n (2 ^ 63)
is_short (negsuc n) = nat_lt n (2 ^ 63)

-- an int is printed as a number where it is short, else as a text of its digits
abbrev pub int_data : ℤ → Data
int_data z = if is_short z then json.number (of_integer z) else json.string (signed_decimal z)

-- a result, in the form in which an argument is passed
abbrev pub value_data : Value → Data
value_data = data_with int_data

-- a kind of failure by its number
unfoldable pub kind_name : ℕ → List ℕ
kind_name kind = if kind == 1 then codes "ZeroDivisionError" else (if kind == 2 then codes "IndexError" else (if kind == 3 then codes "AssertionError" else (if kind == 4 then codes "RecursionError" else (if kind == 5 then codes "OverflowError" else (if kind == 6 then codes "Exception" else (if kind == 7 then codes "ValueError" else (if kind == 8 then codes "RuntimeError" else (if kind == 9 then codes "NoEntity" else (if kind == 10 then codes "AlreadyExists" else (if kind == 11 then codes "SizeLimit" else codes "StepLimit"))))))))))

abbrev pub value_reply : List ℕ → Value → ℕ → Data
value_reply id v seq = json.object (json.member (codes "id") (json.string (encode_utf8_all id)) (json.member (codes "ok") (value_data v) (json.member (codes "seq") (json.number (json.unsigned seq)) json.no_members)))

abbrev pub failure_reply : List ℕ → Failure → ℕ → Data
failure_reply id f seq = json.object (json.member (codes "error") (json.string (kind_name f.kind)) (json.member (codes "id") (json.string (encode_utf8_all id)) (json.member (codes "message") (json.string (encode_utf8_all f.message)) (json.member (codes "seq") (json.number (json.unsigned seq)) json.no_members))))

abbrev pub reply_data : List ℕ → Outcome → ℕ → Data
reply_data id (outcome.Value v) seq = value_reply id v seq
reply_data id (outcome.Failed f) seq = failure_reply id f seq

-- the line of a reply at its place in the history, from 1
unfoldable pub reply_line : List ℕ → Outcome → ℕ → List ℕ
reply_line id o seq = compact_text (reply_data id o seq) ++ 10 ∷ []

abbrev pub bad_data : List ℕ → ℕ → Data
bad_data what number = json.object (json.member (codes "bad") (json.string what) (json.member (codes "line") (json.number (json.unsigned number)) json.no_members))

-- the line that refuses a line of the input by its number
unfoldable pub bad_line : List ℕ → ℕ → List ℕ
bad_line what number = compact_text (bad_data what number) ++ 10 ∷ []
