use Rattle.std.proofs.Common.{◌≡◌, ◌++◌, length}
use Rattle.std.specs.Vec.Iter.{into_iter_items, into_iter_len}
use Rattle.block_code.specs.PlainBlocks.{plain_block, plain_blocks}
use Rattle.block_code.specs.EventsFit.{kept_params}
use Rattle.block_runs.specs.EventStep.{kept}
use Rattle.event_step.specs.Frames.{plain_awaits}
use Rattle.event_step.proofs.frames.keep_all.Given as goal

abbrev pub invariant-loop-var : goal.invariant-loop-var
invariant-loop-var l = record {
  kept :
      l.made ++ kept (kept_params (plain_blocks l.blocks) (plain_block l.block) (plain_awaits l.awaits)) (into_iter_items l.var-iterator)
      ≡ l.initial.made ++ kept (kept_params (plain_blocks l.blocks) (plain_block l.block) (plain_awaits l.awaits)) l.fn.vars;
  count : into_iter_len l.var-iterator ≡ length (into_iter_items l.var-iterator);
}
