use Rattle.std.proofs.Common.{◌≡◌, map, take, drop}
use Rattle.py_tree.specs.PlainProgram.{plain_class}
use Rattle.py_tree.specs.ClassRules.{first_in, first_behind, class_name_fault}
use Rattle.entity_tables.proofs.classes.check_class_names.Given as goal

abbrev pub invariant-loop-i : goal.invariant-loop-i
invariant-loop-i l = first_in class_name_fault (map plain_class l.classes) ≡ first_behind class_name_fault (map plain_class (take l.i l.classes)) (map plain_class (drop l.i l.classes))
