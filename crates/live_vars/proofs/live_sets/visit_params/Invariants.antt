use Rattle.std.proofs.Common.{◌≡◌, ◌<◌, drop, length}
use Rattle.block_code.specs.PlainVars.{plain_vars}
use Rattle.block_code.specs.PlainBlocks.{plain_block}
use Rattle.live_vars.specs.Saved.{sets_of, state, visit_params}
use Rattle.live_vars.proofs.live_sets.visit_params.Given as goal

abbrev pub invariant-loop-param : goal.invariant-loop-param
invariant-loop-param l = record {
  there : l.at < length l.sets;
  so_far : visit_params (plain_block l.block) l.at (plain_vars (drop l.param-index l.param-items)) (state (sets_of l.sets) l.more) ≡ visit_params (plain_block l.block) l.at (plain_vars l.param-items) (state (sets_of l.initial.sets) l.initial.more);
}
