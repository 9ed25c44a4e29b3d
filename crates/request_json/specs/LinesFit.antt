-- What a line asks fits the program.
use Rattle.std.specs.Prelude.{◌≡◌, ℕ, List, Ok}
use Rattle.py_tree.specs.PlainProgram.{PlainProgram}
use Rattle.py_tree.specs.ClassRules.{tables_of}
use Rattle.sf_value.specs.declared.Request.{Request}
use Rattle.request_history.specs.SoundHistory.{RequestFits}
use Rattle.request_json.specs.RequestLines.{reading_of}

-- the request that a line is fits the program: its class is there, its method where it is a call, and each parameter has an
-- argument of its type
abbrev pub LinesFit : Type 0
LinesFit = (names : List (List ℕ)) (program : PlainProgram) (line : List ℕ) (r : Request) → reading_of (record { program = program; names = names }) line ≡ Ok r → RequestFits (tables_of names program) r
