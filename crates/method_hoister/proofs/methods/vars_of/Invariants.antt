use Rattle.std.proofs.Common.{◌≡◌, map, take}
use Rattle.entity_tables.specs.Views.{plain_sig_param}
use Rattle.block_code.specs.PlainVars.{plain_vars}
use Rattle.block_code.specs.GraphFits.{var_of_param}
use Rattle.method_hoister.proofs.methods.vars_of.Given as goal

abbrev pub invariant-loop-param : goal.invariant-loop-param
invariant-loop-param l = plain_vars l.made ≡ map var_of_param (map plain_sig_param (take l.param-index l.params))
