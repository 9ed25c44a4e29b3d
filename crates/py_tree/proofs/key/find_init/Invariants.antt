use Rattle.std.proofs.Common.{◌≡◌, map, drop}
use Rattle.py_tree.specs.PlainProgram.{plain_method}
use Rattle.py_tree.specs.ClassRules.{init_of}
use Rattle.py_tree.proofs.key.find_init.Given as goal

abbrev pub invariant-loop-member : goal.invariant-loop-member
invariant-loop-member l = init_of l.names (map plain_method l.members) ≡ init_of l.names (map plain_method (drop l.member-index l.members))
