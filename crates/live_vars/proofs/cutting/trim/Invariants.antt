use Rattle.block_code.specs.PlainBlocks.{plain_methods}
use Rattle.live_vars.proofs.CutSoFar.{SoFar, MethodMade}
use Rattle.live_vars.proofs.cutting.trim.Given as goal

abbrev pub invariant-loop-i : goal.invariant-loop-i
invariant-loop-i l = SoFar MethodMade l.i (plain_methods l.initial.made) (plain_methods l.made)
