use Rattle.std.proofs.Common.{◌≡◌, map, take, drop}
use Rattle.py_tree.specs.PlainProgram.{plain_class}
use Rattle.py_tree.specs.ClassRules.{first_in, first_behind, tables_of}
use Rattle.entity_tables.specs.Answers.{class_faults}
use Rattle.entity_tables.specs.Views.{plain_tables}
use Rattle.entity_tables.proofs.class.class_tables.Given as goal

abbrev pub invariant-loop-class : goal.invariant-loop-class
invariant-loop-class l = record {
  so_far : first_in (class_faults l.names (map plain_class l.classes)) (map plain_class l.classes) ≡ first_behind (class_faults l.names (map plain_class l.classes)) (map plain_class (take l.class-index l.classes)) (map plain_class (drop l.class-index l.classes));
  made : plain_tables l.tables ≡ tables_of l.names (map plain_class (take l.class-index l.classes));
}
