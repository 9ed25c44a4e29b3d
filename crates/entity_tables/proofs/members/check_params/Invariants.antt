use Rattle.std.proofs.Common.{◌≡◌, map, take, drop}
use Rattle.py_tree.specs.PlainProgram.{plain_class, plain_param}
use Rattle.py_tree.specs.ClassRules.{first_in, first_behind, param_fault}
use Rattle.entity_tables.proofs.members.check_params.Given as goal

abbrev pub invariant-loop-i : goal.invariant-loop-i
invariant-loop-i l = first_in (param_fault (map plain_class l.classes)) (map plain_param l.params) ≡ first_behind (param_fault (map plain_class l.classes)) (map plain_param (take l.i l.params)) (map plain_param (drop l.i l.params))
