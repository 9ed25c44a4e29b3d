-- Notes in memory as what was told.
use Rattle.std.specs.Prelude.{◌≡◌, List, [], ◌∷◌, ◌++◌, map, option_map, Some, None, Ok, Err}
use Rattle.std.specs.declared.option.Option.{Option}
use Rattle.std.specs.declared.result.Result.{Result}
use Rattle.std.specs.declared.alloc.AllocError.{AllocError}
use Rattle.operator_graph.specs.declared.memory_watch.Note.{Note}
use Rattle.operator_graph.specs.declared.memory_watch.Note.TheVariants as note
use Rattle.operator_graph.specs.Telling.{Told, GraphTold, StepTold}
use Rattle.block_code.specs.GraphViews.{graph_tables, graph_blocks}

abbrev pub told_by : Note → Told
told_by (note.Graph graph) = GraphTold (graph_tables graph) (graph_blocks graph)
told_by (note.Step operator event) = StepTold operator event

abbrev pub told_by_all : List Note → List Told
told_by_all = map told_by

abbrev pub told_if : Option (List Note) → Option (List Told)
told_if notes = option_map told_by_all notes

-- notes are kept with one more; or none are kept any more
abbrev pub IsNoted : Option (List Note) → Result Note AllocError → Option (List Note) → Type 0
IsNoted old note None = Unit {0}
IsNoted None note (Some new) = ⊥
IsNoted (Some old) (Err e) (Some new) = ⊥
IsNoted (Some old) (Ok note) (Some new) = new ≡ old ++ note ∷ []
