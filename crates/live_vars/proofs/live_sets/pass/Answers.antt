use Rattle.std.proofs.Common.{◌+◌, drop, sym, ap, ◌∙◌}
use Rattle.block_code.specs.PlainBlocks.{plain_block, plain_blocks}
use Rattle.live_vars.specs.Saved.{sets_of, State, state, visit_all}
use Rattle.live_vars.proofs.SetRules.{block_length, block_more}
use Rattle.live_vars.proofs.live_sets.pass.Goals as goal

pub loop-i-preserved : goal.loop-i-preserved
loop-i-preserved c =
    let i = c.loop-i.i in
    let all = c.args.blocks.now in
    let block = plain_block c.index-blocks-i.result in
    record {
      as_many = block_length c.loop-i.sets c.visit_params.new.sets c.loop-i.more c.in_ok-more.more block i block.params c.in_ok-more.ensures ∙ c.loop-i.invariant.as_many;
      so_far =
          ap (λ (s : State). visit_all (i + 1) (plain_blocks (drop (i + 1) all)) s) c.in_ok-more.ensures
          ∙ sym (block_more (state (sets_of c.loop-i.sets) c.loop-i.more) all i c.index-blocks-i.result c.loop-i-test.true c.index-blocks-i.is)
          ∙ c.loop-i.invariant.so_far;
    }
