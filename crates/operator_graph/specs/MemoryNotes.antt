-- What a watch in memory tells.
use Rattle.std.specs.Prelude.{List}
use Rattle.std.specs.declared.option.Option.{Option}
use Rattle.operator_graph.specs.declared.memory_watch.MemWatch.{MemWatch}
use Rattle.operator_graph.specs.Telling.{Told}
use Rattle.operator_graph.specs.Notes.{told_if}

abbrev pub told_in : MemWatch → Option (List Told)
told_in watch = told_if watch.kept
