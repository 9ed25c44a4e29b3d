-- What a line is read as fits the program.
use Rattle.std.proofs.Common.{ℕ, List, Ok, Err, IfOk}
use Rattle.std.specs.declared.result.Result.{Result}
use Rattle.py_tree.specs.PlainProgram.{PlainProgram}
use Rattle.py_tree.specs.ClassRules.{tables_of}
use Rattle.sf_value.specs.declared.Request.{Request}
use Rattle.request_json.specs.declared.fault.LineError.{LineError}
use Rattle.request_json.specs.Answers.{Gives}
use Rattle.request_json.specs.RequestLines.{reading_of}
use Rattle.request_history.specs.SoundHistory.{RequestFits}
use Rattle.request_json.proofs.RequestFits.{reading_fits}

pub read_fits : (names : List (List ℕ)) (program : PlainProgram) (line : List ℕ) (told : Result Request LineError) → Gives (reading_of (record { program = program; names = names }) line) told → IfOk told (RequestFits (tables_of names program))
read_fits names program line (Ok r) is = reading_fits names program line r is
read_fits names program line (Err error) is = tt
