use Rattle.std.proofs.Common.{◌≡◌, map, drop}
use Rattle.py_tree.specs.PlainProgram.{plain_method}
use Rattle.py_tree.specs.ClassRules.{is_member}
use Rattle.entity_tables.proofs.members.has_member.Given as goal

abbrev pub invariant-loop-member : goal.invariant-loop-member
invariant-loop-member l = is_member (map plain_method l.members) l.name.0 ≡ is_member (map plain_method (drop l.member-index l.members)) l.name.0
