use Rattle.std.proofs.Common.{◌≡◌, ◌<◌, arith, length, get_or, refl, sym, ap, ◌∙◌, length-set}
use Rattle.std.proofs.lemmas.Option.{get_or_from_slice_get}
use Rattle.std.proofs.lemmas.List.{length-map}
use Rattle.entity_types.specs.Views.{plain_local, plain_locals}
use Rattle.flow_types.specs.Views.{plain_standings}
use Rattle.flow_types.proofs.StandingLaws.{settled_more, settled_all}
use Rattle.flow_types.proofs.known.settle.Goals as goal

pub loop-i-preserved : goal.loop-i-preserved
loop-i-preserved c =
    let locals = c.loop-i.locals in
    let local = c.at_mut-local.result.now in
    let standing = c.standing_at-standing.result in
    let is : local ≡ get_or locals c.loop-i.i local = sym (get_or_from_slice_get locals c.loop-i.i local local c.at_mut-local.ensures.value) in
    let within : c.loop-i.i < length locals = omega arith in
    record {
      count = length-set locals c.loop-i.i _ ∙ c.loop-i.invariant.count;
      settles = c.loop-i.invariant.settles ∙ settled_more locals _ (plain_standings c.args.known.now) c.loop-i.i local (record local { assigned = standing.assigned; not_none = standing.not_none }) within is (ap (λ k. record (plain_local local) { assigned = k.assigned; not_none = k.not_none }) c.standing_at-standing.ensures) refl;
    }

pub returns : goal.returns
returns c = sym (c.loop-i.invariant.settles ∙ settled_all (plain_locals c.loop-i.locals) (plain_standings c.args.known.now) c.loop-i.i (simp length-map (omega arith)))
