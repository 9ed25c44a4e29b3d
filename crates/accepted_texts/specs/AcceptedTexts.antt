-- What an accepted text is, whatever program it has.
use Rattle.std.specs.Prelude.{ℕ, List, IsUtf8, chars}
use Rattle.py_tree.specs.NameTable.{IsTable}
use Rattle.py_tree.specs.PlainProgram.{PlainProgram}
use Rattle.byte_sizes.specs.Spelt.{IsShortText}
use Rattle.program_text.specs.Readings.{IsAcceptedText}
use Rattle.short_runs.specs.RealRuns.{IsRealProgram}

-- its bytes are UTF-8
abbrev pub AcceptedAreUtf8 : Type 0
AcceptedAreUtf8 = (text : List ℕ) (program : PlainProgram) (names : List (List ℕ)) → IsAcceptedText text program names → IsUtf8 text

-- the text that they spell is short
abbrev pub AcceptedAreShort : Type 0
AcceptedAreShort = (text : List ℕ) (program : PlainProgram) (names : List (List ℕ)) → IsAcceptedText text program names → IsShortText (chars text)

-- what its program writes is real, where its names are a table
abbrev pub AcceptedAreReal : Type 0
AcceptedAreReal = (text : List ℕ) (program : PlainProgram) (names : List (List ℕ)) → IsAcceptedText text program names → IsTable names
    → IsRealProgram (record { program = program; names = names })
