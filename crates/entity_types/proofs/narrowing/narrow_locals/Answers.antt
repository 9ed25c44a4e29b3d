use Rattle.std.proofs.Common.{◌≡◌, ◌<◌, arith, true, length, get_or, refl, sym, ap, ◌∙◌, length-set}
use Rattle.std.proofs.lemmas.Option.{get_or_from_slice_get}
use Rattle.std.proofs.lemmas.List.{length-map}
use Rattle.py_tree.specs.PlainExpressions.{plain_expr}
use Rattle.py_tree.specs.FlowEnvironment.{shown}
use Rattle.entity_types.specs.Views.{plain_locals}
use Rattle.entity_types.proofs.ScopeLaws.{locals_keep, locals_mark, all_walked}
use Rattle.entity_types.proofs.narrowing.narrow_locals.Goals as goal
use Rattle.entity_types.proofs.narrowing.narrow_locals.Goals.{then-shows, else-shows}

pub loop-i-preserved : goal.loop-i-preserved
loop-i-preserved c =
    let names = shown c.args.truth (plain_expr c.args.test.now) in
    let locals = c.loop-i.locals in
    let local = c.at_mut-local.result.now in
    let is : local ≡ get_or locals c.loop-i.i local = sym (get_or_from_slice_get locals c.loop-i.i local local c.at_mut-local.ensures.value) in
    let within : c.loop-i.i < length locals = omega arith in
    elim c.if-shows.branch [
      | then-shows w ↦ record {
        count = ap length w.locals-is ∙ length-set locals c.loop-i.i _ ∙ c.loop-i.invariant.count;
        marked = c.loop-i.invariant.marked ∙ locals_mark names locals c.if-shows.locals c.loop-i.i local (record local { not_none = true }) within is refl (sym c.shows.ensures ∙ w.if-shows.true) w.locals-is;
      }
      | else-shows w ↦ record {
        count = ap length w.locals-is ∙ length-set locals c.loop-i.i _ ∙ c.loop-i.invariant.count;
        marked = c.loop-i.invariant.marked ∙ locals_keep names locals c.if-shows.locals c.loop-i.i local within is (sym c.shows.ensures ∙ w.if-shows.false) w.locals-is;
      }
    ]

pub returns : goal.returns
returns c =
    sym (c.loop-i.invariant.marked ∙ all_walked (shown c.args.truth (plain_expr c.args.test.now)) (plain_locals c.loop-i.locals) c.loop-i.i (simp length-map (omega arith)))
