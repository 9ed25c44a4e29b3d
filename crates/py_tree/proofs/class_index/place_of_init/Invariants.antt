use Rattle.std.proofs.Common.{◌≡◌, drop}
use Rattle.std.specs.List.{position_from}
use Rattle.py_tree.specs.PlainProgram.{plain_methods}
use Rattle.py_tree.specs.ClassRules.{is_init}
use Rattle.py_tree.proofs.class_index.place_of_init.Given as goal

abbrev pub invariant-loop-at : goal.invariant-loop-at
invariant-loop-at l = position_from (λ m. is_init l.names m.name) 0 (plain_methods l.members) ≡ position_from (λ m. is_init l.names m.name) l.at (plain_methods (drop l.at l.members))
