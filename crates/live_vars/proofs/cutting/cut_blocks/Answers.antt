use Rattle.std.proofs.Common.{◌<◌, refl, subst, ◌∙◌}
use Rattle.block_code.specs.PlainBlocks.{plain_blocks}
use Rattle.live_vars.specs.Saved.{sets_of}
use Rattle.live_vars.proofs.SetRules.{set_length}
use Rattle.live_vars.proofs.CutSoFar.{blocks_begin, block_next, blocks_cut}
use Rattle.live_vars.proofs.cutting.cut_blocks.Goals as goal

pub loop-i-init : goal.loop-i-init
loop-i-init c = record { many = refl; made = blocks_begin (sets_of c.args.sets.now) (plain_blocks c.args.blocks.now) }

pub loop-i-preserved : goal.loop-i-preserved
loop-i-preserved c =
    let i = c.loop-i.i in
    let less = subst (λ n. i < n) c.len-i-end.ensures c.loop-i-test.true in
    record {
      many = set_length c.loop-i.blocks i c.cut_block.new.block ∙ c.loop-i.invariant.many;
      made =
          block_next c.args.sets.now c.index-sets-i.result i c.args.blocks.now c.loop-i.blocks c.at_mut.result.now c.cut_block.new.block c.loop-i.invariant.made c.requires c.loop-i.auto.i less c.index-sets-i.is c.at_mut.ensures.value
          c.in_ok-cut_block.ensures;
    }

pub returns : goal.returns
returns c tells = blocks_cut c.args.sets.now c.loop-i.i c.len-i-end.result c.args.blocks.now c.loop-i.blocks c.loop-i.invariant.made c.len-i-end.ensures c.loop-i-test.false tells
