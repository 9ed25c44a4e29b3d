-- The text of a request is that request again.
use Rattle.std.specs.Prelude.{◌≡◌, ◌≤◌, ℕ, List, length, Ok}
use Rattle.py_tree.specs.PlainProgram.{PlainProgram}
use Rattle.py_tree.specs.ClassRules.{tables_of}
use Rattle.sf_value.specs.declared.Request.{Request}
use Rattle.byte_sizes.specs.Spelt.{IsRealRequest}
use Rattle.program_meaning.specs.NothingGoesWrong.{IsKnownAccepted}
use Rattle.request_history.specs.SoundHistory.{RequestFits}
use Rattle.request_json.specs.RequestLines.{reading_of}
use Rattle.request_json.specs.RequestTexts.{request_text}

-- a request that fits an accepted program, and whose numbers and texts are those that a program can hold, is read back from its text
abbrev pub RequestsReadBack : Type 0
RequestsReadBack =
    (names : List (List ℕ)) (program : PlainProgram) → IsKnownAccepted names program → (r : Request) → RequestFits (tables_of names program) r → IsRealRequest r
    → reading_of (record { program = program; names = names }) (request_text (record { program = program; names = names }) r) ≡ Ok r
