-- What is claimed of the bank's text.
use Rattle.std.specs.Prelude.{ℕ, List}
use Rattle.py_tree.specs.PlainProgram.{PlainProgram}
use Rattle.program_text.specs.declared.fault.ProgramFault.{ProgramFault}
use Rattle.program_text.specs.Readings.{IsAcceptedText, HasFault}
use Rattle.work_gen.specs.Requests.{program}

-- a tree and its names are those of the text, and keep the rules
abbrev pub BankIsAccepted : Type 0
BankIsAccepted = (tree : PlainProgram) × (names : List (List ℕ)) × IsAcceptedText program tree names

abbrev pub BankHasNoFault : Type 0
BankHasNoFault = (fault : ProgramFault) → HasFault program fault → ⊥
