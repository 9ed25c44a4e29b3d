use Rattle.std.proofs.Common.{map, take}
use Rattle.py_tree.specs.PlainProgram.{plain_class}
use Rattle.call_graph.proofs.GraphLaws.{AreMarked}
use Rattle.call_graph.proofs.program.program_marks.Given as goal

abbrev pub invariant-loop-class : goal.invariant-loop-class
invariant-loop-class l = AreMarked l.names (map plain_class l.classes) (map plain_class (take l.class-index l.classes)) l.made
