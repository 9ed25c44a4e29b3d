use Rattle.std.proofs.Common.{sym, ◌∙◌}
use Rattle.block_code.specs.PlainBlocks.{plain_block}
use Rattle.live_vars.proofs.SetRules.{visit_made}
use Rattle.live_vars.proofs.live_sets.visit.Goals as goal

pub returns : goal.returns
returns c =
    visit_made (plain_block c.args.block.now) c.args.at c.args.name.0 c.args.sets.now c.as_slice.result.now c.args.added c.index-as_slice-at.result c.at_mut.result.now c.add.new.self c.as_slice.ensures c.requires c.index-as_slice-at.is
    (sym c.has.ensures ∙ c.if-has.false) (sym c.comes_live.ensures ∙ c.if-not-comes_live.false) c.at_mut.ensures.value c.in_ok-add.ensures
