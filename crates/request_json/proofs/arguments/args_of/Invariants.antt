use Rattle.std.proofs.Common.{◌≤◌, drop, length}
use Rattle.serde_json.specs.View.{items_view}
use Rattle.py_tree.specs.PlainProgram.{plain_params}
use Rattle.program_meaning.specs.Sources.{source_of}
use Rattle.request_json.specs.Arguments.{args_of}
use Rattle.request_json.proofs.ArgLaws.{GoesOn}
use Rattle.request_json.proofs.arguments.args_of.Given as goal

abbrev pub invariant-loop-i : goal.invariant-loop-i
invariant-loop-i l = record {
  so_far : GoesOn l.made (args_of (source_of l.program) (plain_params (drop l.i l.params)) (items_view (drop l.i l.items))) (args_of (source_of l.program) (plain_params l.params) (items_view l.items));
  within : l.i ≤ length l.items;
}
