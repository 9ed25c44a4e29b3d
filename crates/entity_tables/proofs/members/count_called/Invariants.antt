use Rattle.std.proofs.Common.{◌≡◌, ◌+◌, ◌≤◌, length, map, drop}
use Rattle.py_tree.specs.PlainProgram.{plain_method}
use Rattle.py_tree.specs.ClassRules.{methods_of}
use Rattle.entity_tables.proofs.members.count_called.Given as goal

abbrev pub invariant-loop-member : goal.invariant-loop-member
invariant-loop-member l = record { counted : l.count + length (methods_of l.names (map plain_method (drop l.member-index l.members))) ≡ length (methods_of l.names (map plain_method l.members)); few : l.count ≤ l.member-index }
