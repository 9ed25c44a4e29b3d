use Rattle.std.proofs.Common.{◌≡◌, map, drop}
use Rattle.py_tree.specs.PlainProgram.{plain_class}
use Rattle.py_tree.specs.ClassRules.{is_class}
use Rattle.py_tree.proofs.class_names.has_class.Given as goal

abbrev pub invariant-loop-class : goal.invariant-loop-class
invariant-loop-class l = is_class (map plain_class l.classes) l.name.0 ≡ is_class (map plain_class (drop l.class-index l.classes)) l.name.0
