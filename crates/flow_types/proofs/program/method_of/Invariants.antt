use Rattle.std.proofs.Common.{◌≡◌, map, drop}
use Rattle.std.specs.Prelude.{slice_get}
use Rattle.py_tree.specs.PlainProgram.{plain_method}
use Rattle.py_tree.specs.ClassRules.{methods_of}
use Rattle.flow_types.proofs.program.method_of.Given as goal

abbrev pub invariant-loop-member : goal.invariant-loop-member
invariant-loop-member l = slice_get (methods_of l.names (map plain_method l.members)) l.number ≡ slice_get (methods_of l.names (map plain_method (drop l.member-index l.members))) l.left
