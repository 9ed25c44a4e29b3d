use Rattle.std.proofs.Common.{drop}
use Rattle.serde_json.specs.View.{items_view}
use Rattle.py_tree.specs.PlainTypes.{plain_written, type_of}
use Rattle.program_meaning.specs.Sources.{source_of}
use Rattle.request_json.specs.Arguments.{each_of, value_of}
use Rattle.request_json.proofs.ArgLaws.{GoesOn}
use Rattle.request_json.proofs.arguments.+values.Given as goal

abbrev pub invariant-values_of-loop-item : goal.invariant-values_of-loop-item
invariant-values_of-loop-item l = GoesOn l.made (each_of (value_of (source_of l.program) (type_of (plain_written l.element))) (items_view (drop l.item-index l.items)))
    (each_of (value_of (source_of l.program) (type_of (plain_written l.element))) (items_view l.items))
