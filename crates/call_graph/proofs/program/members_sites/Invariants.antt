use Rattle.std.proofs.Common.{◌≡◌, map, take}
use Rattle.py_tree.specs.PlainProgram.{plain_class, plain_method}
use Rattle.py_tree.specs.ClassRules.{methods_of}
use Rattle.call_graph.specs.Suspending.{method_sites}
use Rattle.py_tree.specs.ClassViews.{numbers_of}
use Rattle.call_graph.proofs.program.members_sites.Given as goal

abbrev pub invariant-loop-member : goal.invariant-loop-member
invariant-loop-member l = l.rows ≡ map (method_sites (map plain_class l.classes) (numbers_of l.methods)) (methods_of l.names (map plain_method (take l.member-index l.members)))
