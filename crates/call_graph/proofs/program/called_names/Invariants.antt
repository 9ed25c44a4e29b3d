use Rattle.std.proofs.Common.{◌≡◌, map, take}
use Rattle.py_tree.specs.PlainProgram.{plain_method}
use Rattle.py_tree.specs.ClassRules.{methods_of}
use Rattle.call_graph.specs.Suspending.{method_names}
use Rattle.py_tree.specs.ClassViews.{numbers_of}
use Rattle.call_graph.proofs.program.called_names.Given as goal

abbrev pub invariant-loop-member : goal.invariant-loop-member
invariant-loop-member l = numbers_of l.made ≡ method_names (methods_of l.names (map plain_method (take l.member-index l.members)))
