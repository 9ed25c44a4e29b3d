use Rattle.std.proofs.Common.{◌≡◌, ◌++◌, drop}
use Rattle.py_tree.specs.PlainProgram.{plain_methods}
use Rattle.py_tree.specs.ClassIndices.{called_places}
use Rattle.py_tree.proofs.class_index.called_places.Given as goal

abbrev pub invariant-loop-at : goal.invariant-loop-at
invariant-loop-at l = l.places.items ++ called_places l.names l.at (plain_methods (drop l.at l.members)) ≡ called_places l.names 0 (plain_methods l.members)
