-- Code that doesn't suspend by the marks of an accepted program stays within the record of its entity.
use Rattle.std.specs.Prelude.{◌≡◌, ℕ, Bool, false, List, slice_get}
use Rattle.py_tree.specs.PlainStatements.{stmts_of}
use Rattle.py_tree.specs.PlainProgram.{PlainProgram}
use Rattle.py_tree.specs.ClassRules.{body_of}
use Rattle.py_tree.specs.Acceptance.{KeepsRules}
use Rattle.py_tree.specs.declared.checked.Checked.{Checked}
use Rattle.py_tree.specs.CheckedViews.{checked_program, checked_names}
use Rattle.call_graph.specs.Marks.{is_marked, IsGraph}
use Rattle.call_graph.specs.SuspendingCode.{leaving, leaving_in, stmts_suspend}
use Rattle.program_meaning.specs.ClassTables.{Source, methods_of}
use Rattle.program_meaning.specs.HereInState.{KeepsWithin}

abbrev pub source : List (List ℕ) → PlainProgram → Source
source names program = record { program = program; names = names }

-- the body of a method without a mark doesn't suspend, at any point that can be reached
abbrev pub UnmarkedStay : Type 0
UnmarkedStay = (names : List (List ℕ)) (program : PlainProgram) → KeepsRules names program → (graph : List (List Bool)) → IsGraph names program graph → (class method : ℕ) → is_marked graph class method ≡ false
    → stmts_suspend (leaving names program graph class) (stmts_of (body_of (slice_get (methods_of (source names program) class) method))) ≡ false

-- a call that stays by the marks is on `self`, and runs a body that doesn't suspend
abbrev pub MarksKeepWithin : Type 0
MarksKeepWithin = (names : List (List ℕ)) (program : PlainProgram) → KeepsRules names program → (graph : List (List Bool)) → IsGraph names program graph → (class : ℕ) → KeepsWithin (source names program) class (leaving names program graph class)

-- so it is in each program that was checked
abbrev pub CheckedKeepWithin : Type 0
CheckedKeepWithin = (c : Checked) (graph : List (List Bool)) → IsGraph (checked_names c) (checked_program c) graph → (class : ℕ) → KeepsWithin (source (checked_names c) (checked_program c)) class (leaving_in c graph class)
