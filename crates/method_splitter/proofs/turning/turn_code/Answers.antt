use Rattle.std.proofs.Common.{◌<◌, arith, length, refl, sym, ap, ◌∙◌, length-set, reverse}
use Rattle.std.proofs.lemmas.List.{length-map}
use Rattle.block_code.specs.PlainBlocks.{plain_item, plain_items}
use Rattle.method_splitter.proofs.OtherOrder.{map-reverse, items_more, items_all}
use Rattle.method_splitter.proofs.turning.turn_code.Goals as goal

pub loop-i-preserved : goal.loop-i-preserved
loop-i-preserved c =
    let code = c.loop-i.code in
    let i = c.loop-i.i in
    let item = c.at_mut.result.now in
    let within : i < length code = omega arith in
    record {
      count = length-set code i _ ∙ c.loop-i.invariant.count;
      gives = c.loop-i.invariant.gives ∙ items_more code _ i item c.turn_statements.new.item within c.at_mut.ensures.value c.in_ok-turn_statements.ensures refl;
    }

pub returns : goal.returns
returns c =
    let code = c.loop-i.code in
    ap plain_items c.in_ok-turn.ensures ∙ map-reverse plain_item code
    ∙ ap reverse (sym (c.loop-i.invariant.gives ∙ items_all (plain_items code) c.loop-i.i (simp length-map (omega arith))))
