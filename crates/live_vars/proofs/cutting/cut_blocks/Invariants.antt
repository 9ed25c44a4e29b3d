use Rattle.std.proofs.Common.{◌≡◌, length}
use Rattle.block_code.specs.PlainBlocks.{plain_blocks}
use Rattle.live_vars.specs.Saved.{sets_of}
use Rattle.live_vars.proofs.CutSoFar.{SoFar, BlockMade}
use Rattle.live_vars.proofs.cutting.cut_blocks.Given as goal

abbrev pub invariant-loop-i : goal.invariant-loop-i
invariant-loop-i l = record {
  many : length l.blocks ≡ length l.initial.blocks;
  made : SoFar (BlockMade (sets_of l.sets)) l.i (plain_blocks l.initial.blocks) (plain_blocks l.blocks);
}
