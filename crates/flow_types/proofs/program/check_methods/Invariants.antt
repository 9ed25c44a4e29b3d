use Rattle.std.proofs.Common.{◌≡◌, ◌+◌, length, map, drop}
use Rattle.py_tree.specs.PlainProgram.{plain_method}
use Rattle.py_tree.specs.ClassRules.{methods_of}
use Rattle.py_tree.specs.Flow.{methods_flow_fault}
use Rattle.entity_tables.specs.Views.{plain_tables}
use Rattle.flow_types.proofs.program.check_methods.Given as goal

abbrev pub invariant-loop-member : goal.invariant-loop-member
invariant-loop-member l = record {
  faults : methods_flow_fault (plain_tables l.tables) l.class 0 (methods_of l.names (map plain_method l.members)) ≡ methods_flow_fault (plain_tables l.tables) l.class l.number (methods_of l.names (map plain_method (drop l.member-index l.members)));
  count : l.number + length (methods_of l.names (map plain_method (drop l.member-index l.members))) ≡ length (methods_of l.names (map plain_method l.members));
}
