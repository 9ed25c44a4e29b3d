use Rattle.std.proofs.Common.{◌≡◌, map, drop}
use Rattle.py_tree.specs.PlainProgram.{plain_method}
use Rattle.py_tree.specs.ClassRules.{key_method}
use Rattle.py_tree.proofs.key.find_key.Given as goal

abbrev pub invariant-loop-member : goal.invariant-loop-member
invariant-loop-member l = key_method l.names (map plain_method l.members) ≡ key_method l.names (map plain_method (drop l.member-index l.members))
