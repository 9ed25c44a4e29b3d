use Rattle.std.proofs.Common.{◌≡◌, map, take}
use Rattle.py_tree.specs.Flow.{param_local}
use Rattle.entity_tables.specs.Views.{plain_sig_param}
use Rattle.entity_types.specs.Views.{plain_locals}
use Rattle.flow_types.proofs.methods.param_locals.Given as goal

abbrev pub invariant-loop-param : goal.invariant-loop-param
invariant-loop-param l = plain_locals l.made ≡ map param_local (map plain_sig_param (take l.param-index l.params))
