use Rattle.std.proofs.Common.{◌≡◌, map, take, drop}
use Rattle.py_tree.specs.PlainProgram.{plain_class, plain_method}
use Rattle.py_tree.specs.ClassRules.{first_in, first_behind, member_fault}
use Rattle.entity_tables.proofs.class.check_members.Given as goal

abbrev pub invariant-loop-i : goal.invariant-loop-i
invariant-loop-i l = first_in (member_fault l.names (map plain_class l.classes) (map plain_method l.members)) (map plain_method l.members) ≡ first_behind (member_fault l.names (map plain_class l.classes) (map plain_method l.members)) (map plain_method (take l.i l.members)) (map plain_method (drop l.i l.members))
