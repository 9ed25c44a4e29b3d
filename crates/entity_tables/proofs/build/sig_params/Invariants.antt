use Rattle.std.proofs.Common.{◌≡◌, map, take}
use Rattle.py_tree.specs.PlainProgram.{plain_param}
use Rattle.py_tree.specs.ClassRules.{sig_params}
use Rattle.entity_tables.specs.Views.{plain_sig_param}
use Rattle.entity_tables.proofs.build.sig_params.Given as goal

abbrev pub invariant-loop-param : goal.invariant-loop-param
invariant-loop-param l = map plain_sig_param l.made ≡ sig_params (map plain_param (take l.param-index l.params))
