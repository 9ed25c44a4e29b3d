use Rattle.std.proofs.Common.{◌≡◌, map, drop}
use Rattle.py_tree.specs.PlainProgram.{plain_param}
use Rattle.py_tree.specs.ClassRules.{is_param}
use Rattle.entity_tables.proofs.members.has_param.Given as goal

abbrev pub invariant-loop-param : goal.invariant-loop-param
invariant-loop-param l = is_param (map plain_param l.params) l.name.0 ≡ is_param (map plain_param (drop l.param-index l.params)) l.name.0
