-- An accepted program, as the meaning reads it.
use Rattle.py_tree.specs.declared.checked.Checked.{Checked}
use Rattle.py_tree.specs.CheckedViews.{checked_program, checked_names}
use Rattle.program_meaning.specs.ClassTables.{Source}

abbrev pub source_of : Checked → Source
source_of c = record { program = checked_program c; names = checked_names c }
