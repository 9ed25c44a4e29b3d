use Rattle.std.proofs.Common.{◌≡◌, take}
use Rattle.block_code.specs.PlainBlocks.{plain_catches}
use Rattle.method_splitter.specs.Split as spec
use Rattle.method_splitter.specs.Rests.{plain_caughts}
use Rattle.method_splitter.proofs.around.catches_of.Given as goal

abbrev pub invariant-loop-caught : goal.invariant-loop-caught
invariant-loop-caught l = plain_catches l.made ≡ spec.catches_in (plain_caughts (take l.caught-index l.caught-items))
