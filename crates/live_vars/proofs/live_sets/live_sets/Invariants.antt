use Rattle.std.proofs.Common.{◌≡◌, false}
use Rattle.block_code.specs.PlainBlocks.{plain_blocks}
use Rattle.live_vars.specs.Saved.{sets_of, TellsLive, LiveAreParams}
use Rattle.live_vars.proofs.FixedPoint.{Good, measure}
use Rattle.live_vars.proofs.live_sets.live_sets.Given as goal

abbrev pub invariant-loop-more : goal.invariant-loop-more
invariant-loop-more l = record {
  good : Good (plain_blocks l.blocks) (sets_of l.sets);
  done : l.more ≡ false → LiveAreParams (plain_blocks l.blocks) → TellsLive (plain_blocks l.blocks) (sets_of l.sets);
}

abbrev pub decreases-loop-more : goal.decreases-loop-more
decreases-loop-more l = measure (plain_blocks l.blocks) (sets_of l.sets) l.more
