use Rattle.std.proofs.Common.{◌≡◌, false, drop, length}
use Rattle.block_code.specs.PlainBlocks.{plain_blocks}
use Rattle.live_vars.specs.Saved.{sets_of, state, visit_all}
use Rattle.live_vars.proofs.live_sets.pass.Given as goal

abbrev pub invariant-loop-i : goal.invariant-loop-i
invariant-loop-i l = record {
  as_many : length l.sets ≡ length l.blocks;
  so_far : visit_all l.i (plain_blocks (drop l.i l.blocks)) (state (sets_of l.sets) l.more) ≡ visit_all 0 (plain_blocks l.blocks) (state (sets_of l.initial.sets) false);
}
