use Rattle.std.proofs.Common.{◌≡◌, take}
use Rattle.entity_types.specs.Views.{plain_locals}
use Rattle.block_code.specs.PlainVars.{plain_vars}
use Rattle.hoisting.specs.Stages.{surely}
use Rattle.hoisting.proofs.stages.surely.Given as goal

abbrev pub invariant-loop-local : goal.invariant-loop-local
invariant-loop-local l = plain_vars l.made ≡ surely (plain_locals (take l.local-index l.local-items))
