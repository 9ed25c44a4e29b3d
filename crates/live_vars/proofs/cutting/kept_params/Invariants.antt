use Rattle.std.proofs.Common.{◌≡◌, ◌++◌, drop}
use Rattle.block_code.specs.PlainVars.{plain_vars}
use Rattle.live_vars.specs.Saved.{names_in}
use Rattle.live_vars.specs.Trim.{kept_of}
use Rattle.live_vars.proofs.cutting.kept_params.Given as goal

abbrev pub invariant-loop-param : goal.invariant-loop-param
invariant-loop-param l = plain_vars l.made ++ kept_of (names_in l.set) (plain_vars (drop l.param-index l.param-items)) ≡ kept_of (names_in l.set) (plain_vars l.param-items)
