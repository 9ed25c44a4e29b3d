-- The core to which nothing has come fits, and is sound.
use Rattle.std.proofs.Common.{ℕ, List, []}
use Rattle.std.specs.Prelude.{bytes_eq}
use Rattle.std.specs.List.{IsDistinct}
use Rattle.py_tree.specs.ClassRules.{PlainTable, tables_of}
use Rattle.py_tree.specs.PlainProgram.{PlainProgram}
use Rattle.program_meaning.specs.ClassTables.{Source}
use Rattle.program_meaning.proofs.SerialLaws.{IsSound-empty}
use Rattle.program_meaning.proofs.Soundness.{first_fits}
use Rattle.engine.specs.Cores.{empty_core, PendingFits, CoreFits, IsSoundCore}

none_twice : IsDistinct bytes_eq []
unfolding IsDistinct
none_twice = tt

nothing_waits : (tables : List PlainTable) → PendingFits tables empty_core
nothing_waits tables = record { requests = tt; ids = none_twice }

pub empty_fits : (names : List (List ℕ)) (program : PlainProgram) → CoreFits (tables_of names program) empty_core
empty_fits names program = record { entries = tt; state = first_fits names program; pending = nothing_waits (tables_of names program) }

pub empty_sound : (src : Source) → IsSoundCore src empty_core
empty_sound src = record { committed = record { run = IsSound-empty src; requests = tt }; pending = nothing_waits (tables_of src.names src.program) }
