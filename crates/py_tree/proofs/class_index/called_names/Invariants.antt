use Rattle.std.proofs.Common.{◌≡◌, map, take}
use Rattle.py_tree.specs.PlainProgram.{plain_methods}
use Rattle.py_tree.specs.ClassRules.{methods_of}
use Rattle.py_tree.specs.ClassViews.{numbers_of}
use Rattle.py_tree.proofs.class_index.called_names.Given as goal

abbrev pub invariant-loop-member : goal.invariant-loop-member
invariant-loop-member l = numbers_of l.called.items ≡ map (λ m. m.name) (methods_of l.names (plain_methods (take l.member-index l.members)))
