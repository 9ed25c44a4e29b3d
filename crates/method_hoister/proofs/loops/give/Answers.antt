use Rattle.std.proofs.Common.{◌≡◌, ◌<◌, arith, length, get_or, refl, sym, ◌∙◌, length-set}
use Rattle.std.proofs.lemmas.Option.{get_or_from_slice_get}
use Rattle.std.proofs.lemmas.List.{length-map}
use Rattle.entity_types.specs.Views.{plain_locals}
use Rattle.method_hoister.specs.SmallCode.{given_by}
use Rattle.flow_types.proofs.LocalLaws.{changed_more, changed_all}
use Rattle.method_hoister.proofs.loops.give.Goals as goal

pub loop-i-preserved : goal.loop-i-preserved
loop-i-preserved c =
    let locals = c.loop-i.locals in
    let local = c.at_mut.result.now in
    let is : local ≡ get_or locals c.loop-i.i local = sym (get_or_from_slice_get locals c.loop-i.i local local c.at_mut.ensures.value) in
    let within : c.loop-i.i < length locals = omega arith in
    record {
      count = length-set locals c.loop-i.i _ ∙ c.loop-i.invariant.count;
      gives = c.loop-i.invariant.gives ∙ changed_more (given_by c.args.name.0 c.args.not_none) locals _ c.loop-i.i local c.give_if_named.new.local within is c.give_if_named.ensures refl;
    }

pub returns : goal.returns
returns c = sym (c.loop-i.invariant.gives ∙ changed_all (given_by c.args.name.0 c.args.not_none) (plain_locals c.loop-i.locals) c.loop-i.i (simp length-map (omega arith)))
