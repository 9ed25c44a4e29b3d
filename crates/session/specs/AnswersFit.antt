-- In a session over an accepted program nothing goes wrong.
use Rattle.std.specs.Prelude.{ℕ, List}
use Rattle.py_tree.specs.PlainProgram.{PlainProgram}
use Rattle.py_tree.specs.ClassRules.{tables_of}
use Rattle.program_meaning.specs.Fits.{StateFits}
use Rattle.program_meaning.specs.NothingGoesWrong.{IsKnownAccepted}
use Rattle.request_json.specs.Actions.{Line}
use Rattle.request_history.specs.SoundHistory.{EntriesFit}
use Rattle.session.specs.SerialOutput.{SerialLines}

-- the entries of the run that answers these lines fit, and so does the state behind them
abbrev pub AnswersFit : Type 0
AnswersFit = (names : List (List ℕ)) (program : PlainProgram) → IsKnownAccepted names program
    → (most : ℕ) (lines : List Line) (serial : SerialLines (record { program = program; names = names }) most lines)
    → EntriesFit (tables_of names program) serial.core.history × StateFits (tables_of names program) serial.core.state
