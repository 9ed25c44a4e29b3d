use Rattle.std.proofs.Common.{◌≡◌, arith, true, length, sym, ap, ◌∙◌, length-set}
use Rattle.std.proofs.lemmas.List.{length-map}
use Rattle.py_tree.specs.PlainExpressions.{plain_expr}
use Rattle.py_tree.specs.FlowEnvironment.{shown, has_name}
use Rattle.entity_types.specs.Views.{plain_locals}
use Rattle.entity_types.specs.Scopes.{known_by}
use Rattle.entity_types.proofs.ScopeLaws.{flag_passes, flag_marks, all_walked, length_known}
use Rattle.entity_types.proofs.narrowing.mark_shown.Goals as goal
use Rattle.entity_types.proofs.narrowing.mark_shown.Goals.{then-shows, else-shows}

pub loop-i-preserved : goal.loop-i-preserved
loop-i-preserved c =
    let names = shown c.args.truth (plain_expr c.args.test.now) in
    let local = c.index-locals-i.result in
    let tells : has_name names local.name.0 ≡ c.shows.result = ap (λ l. has_name names l.name.0) c.index-locals-i.is ∙ sym c.shows.ensures in
    elim c.if-shows.branch [
      | then-shows w ↦ record {
        count = ap length (w.not_none-is ∙ w.set.ensures) ∙ length-set c.loop-i.not_none c.loop-i.i true ∙ c.loop-i.invariant.count;
        marked = c.loop-i.invariant.marked ∙ flag_marks names c.args.locals.now c.loop-i.not_none c.if-shows.not_none c.loop-i.i local c.loop-i-test.true c.loop-i.invariant.count c.index-locals-i.is (tells ∙ w.if-shows.true) (w.not_none-is ∙ w.set.ensures);
      }
      | else-shows w ↦
          let step = flag_passes names c.args.locals.now c.loop-i.not_none c.loop-i.i local c.loop-i-test.true c.loop-i.invariant.count c.index-locals-i.is (tells ∙ w.if-shows.false) in
          record { count = ap length w.not_none-is ∙ c.loop-i.invariant.count; marked = cc }
    ]

pub returns-clause-known : goal.returns-clause-known
returns-clause-known c =
    let locals = known_by (plain_locals c.args.locals.now) c.loop-i.not_none in
    sym (c.loop-i.invariant.marked ∙ all_walked (shown c.args.truth (plain_expr c.args.test.now)) locals c.loop-i.i (simp (length_known, length-map) (omega arith)))
