use Rattle.std.proofs.Common.{◌≡◌, map, take}
use Rattle.entity_tables.specs.Views.{plain_sig_param}
use Rattle.hoisting.specs.HoistExpressions as spec
use Rattle.expression_hoister.specs.ExpressionViews.{plain_each_wanted}
use Rattle.expression_hoister.proofs.wants.by_params.Given as goal

abbrev pub invariant-loop-param : goal.invariant-loop-param
invariant-loop-param l = plain_each_wanted l.made ≡ spec.by_params (map plain_sig_param (take l.param-index l.params))
