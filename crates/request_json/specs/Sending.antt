-- What is sent to a writer of JSON, and the line of its text.
use Rattle.std.specs.Prelude.{◌≡◌, ℕ, ℤ, List, [], ◌∷◌, ◌++◌, Some}
use Rattle.serde.specs.Event.{Log, Logs, field_key}
use Rattle.serde.specs.declared.name.Case.TheVariants.{AsIs}
use Rattle.serde_json.specs.Data.{Data}
use Rattle.serde_json.specs.Events.{SendsValue}
use Rattle.serde_json.specs.Sent.{IsTextOf}
use Rattle.request_json.specs.declared.sending.Ints.{Ints}
use Rattle.request_json.specs.declared.sending.Ints.TheVariants.{Replied, Passed}
use Rattle.request_json.specs.ReplyLines.{int_data}
use Rattle.request_json.specs.RequestTexts.{passed_int}

-- the data of ints in each form
abbrev pub ints_of : Ints → ℤ → Data
ints_of Replied = int_data
ints_of Passed = passed_int

-- one member of an object
abbrev pub SendsMember : List ℕ → Data → Log → Log → Type 0
SendsMember key d old new = (named : Log) × Logs old named (field_key key AsIs) × SendsValue d named new

-- the text of what is written from nothing on, and LF
abbrev pub IsLineOf : (Log → Log → Type 0) → List ℕ → Type 0
IsLineOf writes line = (log : Log) × (text : List ℕ) × writes (Some []) log × IsTextOf log text × (line ≡ text ++ 10 ∷ [])
