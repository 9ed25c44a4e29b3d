use Rattle.std.proofs.Common.{◌≡◌, ◌<◌, [], ◌∷◌, arith, length, get_or, refl, sym, ◌∙◌, length-set}
use Rattle.std.proofs.lemmas.Option.{get_or_from_slice_get}
use Rattle.std.proofs.lemmas.List.{length-map}
use Rattle.entity_types.specs.Views.{plain_locals}
use Rattle.flow_types.proofs.HeadLaws.{head_more, head_all}
use Rattle.flow_types.proofs.head.forget.Goals as goal

pub loop-i-preserved : goal.loop-i-preserved
loop-i-preserved c =
    let locals = c.loop-i.locals in
    let local = c.at_mut.result.now in
    let is : local ≡ get_or locals c.loop-i.i local = sym (get_or_from_slice_get locals c.loop-i.i local local c.at_mut.ensures.value) in
    let within : c.loop-i.i < length locals = omega arith in
    record {
      count = length-set locals c.loop-i.i _ ∙ c.loop-i.invariant.count;
      forgets = c.loop-i.invariant.forgets ∙ head_more (c.args.name.0 ∷ []) locals _ c.loop-i.i local c.forget_if_named.new.local within is c.forget_if_named.ensures refl;
    }

pub returns : goal.returns
returns c = sym (c.loop-i.invariant.forgets ∙ head_all (c.args.name.0 ∷ []) (plain_locals c.loop-i.locals) c.loop-i.i (simp length-map (omega arith)))
