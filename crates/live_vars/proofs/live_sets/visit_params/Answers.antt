use Rattle.std.proofs.Common.{◌+◌, ◌<◌, drop, sym, ap, subst, ◌∙◌}
use Rattle.block_code.specs.PlainVars.{plain_vars}
use Rattle.block_code.specs.PlainBlocks.{plain_block}
use Rattle.live_vars.specs.Saved.{sets_of, State, state, visit_params}
use Rattle.live_vars.proofs.SetRules.{visited_length, param_more}
use Rattle.live_vars.proofs.live_sets.visit_params.Goals as goal

pub loop-param-preserved : goal.loop-param-preserved
loop-param-preserved c =
    let block = plain_block c.args.block.now in
    let i = c.loop-param.param-index in
    let all = c.as_slice-param-items.result.now in
    record {
      there = subst (λ n. c.args.at < n) (sym (visited_length c.loop-param.sets c.visit.new.sets c.loop-param.more c.in_ok-more.more block c.args.at c.param-item.result.name.0 c.in_ok-more.ensures)) c.loop-param.invariant.there;
      so_far =
          ap (λ (s : State). visit_params block c.args.at (plain_vars (drop (i + 1) all)) s) c.in_ok-more.ensures
          ∙ sym (param_more block c.args.at (state (sets_of c.loop-param.sets) c.loop-param.more) all i c.param-item.result c.loop-param-test.true c.param-item.is)
          ∙ c.loop-param.invariant.so_far;
    }
