use Rattle.std.proofs.Common.{◌≡◌, map, drop}
use Rattle.py_tree.specs.PlainProgram.{plain_class}
use Rattle.py_tree.specs.Flow.{classes_flow_fault}
use Rattle.entity_tables.specs.Views.{plain_tables}
use Rattle.flow_types.proofs.program.check_classes.Given as goal

abbrev pub invariant-loop-class : goal.invariant-loop-class
invariant-loop-class l = record {
  faults : classes_flow_fault l.names (plain_tables l.tables) 0 (map plain_class l.classes) ≡ classes_flow_fault l.names (plain_tables l.tables) l.number (map plain_class (drop l.class-index l.classes));
  count : l.number ≡ l.class-index;
}
