-- What an accepted program shows.
use Rattle.std.specs.Prelude.{ℕ, List}
use Rattle.py_tree.specs.declared.checked.Checked.{Checked}
use Rattle.py_tree.specs.PlainProgram.{PlainProgram, plain_program}

abbrev pub checked_program : Checked → PlainProgram
checked_program c = plain_program c.program

abbrev pub checked_names : Checked → List (List ℕ)
checked_names c = c.names
