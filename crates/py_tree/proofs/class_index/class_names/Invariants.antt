use Rattle.std.proofs.Common.{◌≡◌, map, take}
use Rattle.py_tree.specs.PlainProgram.{plain_classes}
use Rattle.py_tree.specs.ClassViews.{numbers_of}
use Rattle.py_tree.proofs.class_index.class_names.Given as goal

abbrev pub invariant-loop-class : goal.invariant-loop-class
invariant-loop-class l = numbers_of l.names.items ≡ map (λ c. c.name) (plain_classes (take l.class-index l.classes))
