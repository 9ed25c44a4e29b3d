-- What a compiled program shows: its program with its names, and the tables and blocks of its graph.
use Rattle.std.specs.Prelude.{ℕ, List}
use Rattle.std.specs.declared.option.Option.{Option}
use Rattle.py_tree.specs.PlainProgram.{PlainProgram}
use Rattle.py_tree.specs.ClassRules.{PlainTable}
use Rattle.py_tree.specs.CheckedViews.{checked_program, checked_names}
use Rattle.sf_value.specs.declared.value.Value.{Value}
use Rattle.quiet_methods.specs.MarksKeepWithin.{source}
use Rattle.block_code.specs.declared.event.Event.{Event}
use Rattle.block_code.specs.GraphViews.{graph_tables, graph_blocks}
use Rattle.block_code.specs.PlainBlocks.{PlainBlock}
use Rattle.block_runs.specs.EventStep.{Step, StepsTo}
use Rattle.block_step.specs.Compilation.{IsCompilation}
use Rattle.block_step.specs.declared.compiled.Compiled.{Compiled}

abbrev pub compiled_program : Compiled → PlainProgram
compiled_program c = checked_program c.program

abbrev pub compiled_names : Compiled → List (List ℕ)
compiled_names c = checked_names c.program

abbrev pub compiled_tables : Compiled → List PlainTable
compiled_tables c = graph_tables c.graph

abbrev pub compiled_blocks : Compiled → List (List PlainBlock)
compiled_blocks c = graph_blocks c.graph

-- the graph is one of its program
abbrev pub IsWhole : Compiled → Type 0
IsWhole c = IsCompilation (compiled_names c) (compiled_program c) (compiled_tables c) (compiled_blocks c)

-- an event with a record, or with none, comes to this step
abbrev pub StepsIn : Compiled → Event → Option (List Value) → Step → Type 0
StepsIn c e held s = StepsTo (source (compiled_names c) (compiled_program c)) (compiled_tables c) (compiled_blocks c) e held s
