use Rattle.std.proofs.Common.{true≢false, length, sym, ap, ◌∙◌}
use Rattle.std.proofs.lemmas.List.{length-map}
use Rattle.block_code.specs.PlainBlocks.{plain_block, plain_blocks}
use Rattle.live_vars.specs.Saved.{names_in, sets_of}
use Rattle.live_vars.proofs.FixedPoint.{code_passed, none_good, shrinks}
use Rattle.live_vars.proofs.live_sets.live_sets.Goals as goal

pub loop-more-init : goal.loop-more-init
loop-more-init c = record {
  good = none_good (plain_blocks c.args.blocks.now) (sets_of c.in_ok-sets.sets) c.len.result c.in_ok-sets.ensures (c.len.ensures ∙ sym (length-map c.args.blocks.now plain_block));
  done = λ e. absurd (true≢false e);
}

pub loop-more-smaller : goal.loop-more-smaller
loop-more-smaller c =
    shrinks (plain_blocks c.args.blocks.now) (sets_of c.loop-more.sets) (sets_of c.pass.new.sets) c.loop-more.more c.in_ok-more.more c.loop-more-test.true
    (code_passed c.args.blocks.now c.as_slice.result.now (sets_of c.loop-more.sets) (sets_of c.pass.new.sets) c.in_ok-more.more c.as_slice.ensures c.loop-more.invariant.good c.in_ok-more.ensures)

pub loop-more-preserved : goal.loop-more-preserved
loop-more-preserved c =
    let p = code_passed c.args.blocks.now c.as_slice.result.now (sets_of c.loop-more.sets) (sets_of c.pass.new.sets) c.in_ok-more.more c.as_slice.ensures c.loop-more.invariant.good c.in_ok-more.ensures in
    record { good = record { as_many = p.as_many; sound = p.sound }; done = p.done }

pub pass-requires : goal.pass-requires
pass-requires c = sym (length-map c.loop-more.sets names_in) ∙ c.loop-more.invariant.good.as_many ∙ length-map c.args.blocks.now plain_block ∙ sym (ap length c.as_slice.ensures)

pub returns-clause-as_many : goal.returns-clause-as_many
returns-clause-as_many c = sym (length-map c.loop-more.sets names_in) ∙ c.loop-more.invariant.good.as_many ∙ length-map c.args.blocks.now plain_block

pub returns-clause-live : goal.returns-clause-live
returns-clause-live c = c.loop-more.invariant.done c.loop-more-test.false
