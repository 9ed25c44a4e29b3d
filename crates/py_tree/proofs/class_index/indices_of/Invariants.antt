use Rattle.std.proofs.Common.{take}
use Rattle.py_tree.specs.PlainProgram.{plain_classes}
use Rattle.py_tree.proofs.IndexLaws.{Kept}
use Rattle.py_tree.proofs.class_index.indices_of.Given as goal

abbrev pub invariant-loop-class : goal.invariant-loop-class
invariant-loop-class l = Kept l.names (plain_classes (take l.class-index l.classes)) l.indices.items
