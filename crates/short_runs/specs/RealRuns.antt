-- Runs keep what they store real: each int is one of 128 bits, each text is of Unicode's characters, and a class has a number of 32 bits.
use Rattle.std.specs.Prelude.{◌≡◌, List, Some, FitsSigned}
use Rattle.std.specs.FinMap as map
use Rattle.std.specs.Int.{w128}
use Rattle.std.specs.List.{All, AllByRecursion}
use Rattle.std.specs.Str.{IsUtf8}
use Rattle.py_tree.specs.PlainProgram.{PlainMethod}
use Rattle.py_tree.specs.PlainStatements.{stmts_of}
use Rattle.sf_value.specs.Keys.{Key}
use Rattle.sf_value.specs.declared.value.Value.{Value}
use Rattle.sf_value.specs.declared.Act.{Act}
use Rattle.byte_sizes.specs.Spelt.{IsRealRef, AreReal, IsRealAct, IsRealOutcome}
use Rattle.program_meaning.specs.ClassTables.{Source}
use Rattle.program_meaning.specs.World.{State}
use Rattle.program_meaning.specs.WrittenInts.{StmtsInts}
use Rattle.program_meaning.specs.NothingGoesWrong.{IsKnownAccepted}
use Rattle.program_meaning.specs.RequestRun.{run}
use Rattle.program_meaning.specs.Serial.{no_state, serial_outcomes, serial_state}

-- the entity of this class and key, and the value of each of its fields
abbrev pub EntityIsReal : Key → List Value → Type 0
EntityIsReal at fields = IsRealRef (record { class = at.0; key = at.1 }) × AreReal fields

-- each entity that there is
pub record StateIsReal (s : State) : Type 0 where
  pub each : (at : Key) (fields : List Value) → map.get s at ≡ Some fields → EntityIsReal at fields

-- each int that is written in a method is one of 128 bits
abbrev pub WritesReal : PlainMethod → Type 0
WritesReal m = StmtsInts (FitsSigned w128) (stmts_of m.body)

-- what a program writes is real: the ints in all that its classes define, and the texts of its names, from which its literals are
pub record IsRealProgram (src : Source) : Type 0 where
  pub ints : All (λ c. All WritesReal c.members) src.program
  pub texts : All IsUtf8 src.names

abbrev pub FirstIsReal : Type 0
FirstIsReal = StateIsReal no_state

-- in an accepted program that writes what is real, a real request on a real state comes to a real value, or to a failure with a real
-- message, and leaves a real state
abbrev pub RunsAreReal : Type 0
RunsAreReal = (src : Source) → IsKnownAccepted src.names src.program → IsRealProgram src → (s : State) (asked : Act) → StateIsReal s → IsRealAct asked
    → IsRealOutcome (run src s asked).outcome × StateIsReal (run src s asked).state

-- so do real requests that run one after another
abbrev pub SerialIsReal : Type 0
SerialIsReal = (src : Source) → IsKnownAccepted src.names src.program → IsRealProgram src → (s : State) (asked : List Act) → StateIsReal s → AllByRecursion IsRealAct asked
    → AllByRecursion IsRealOutcome (serial_outcomes src s asked) × StateIsReal (serial_state src s asked)
