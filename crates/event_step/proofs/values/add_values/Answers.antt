use Rattle.std.proofs.Common.{◌∙◌, sym}
use Rattle.program_meaning.proofs.EvalLaws.{all_end}
use Rattle.event_step.specs.Running.{site_of, held_of}
use Rattle.event_step.proofs.ValueLaws.{value_added, value_fails}
use Rattle.event_step.proofs.values.add_values.Goals as goal

pub returns-in-Some-clause-added : goal.returns-in-Some-clause-added
returns-in-Some-clause-added c =
    sym c.loop-expr.invariant.added
    ∙ value_fails c.args.place.now c.loop-expr.running c.add_value.new.running c.in_ok-failure.ensures.vars c.args.exprs.now c.loop-expr.expr-index c.expr-item.result c.loop-expr.values c.loop-expr-test.true c.expr-item.is c.in_ok-failure.field-0 c.in-Some.failure c.add_value.new.values c.in-Some.is c.in_ok-failure.ensures.added

pub loop-expr-preserved : goal.loop-expr-preserved
loop-expr-preserved c = record {
  added =
      value_added c.args.place.now c.loop-expr.running c.add_value.new.running c.in_ok-failure.ensures.vars c.args.exprs.now c.loop-expr.expr-index c.expr-item.result c.loop-expr.values c.loop-expr-test.true c.expr-item.is c.in_ok-failure.field-0 c.add_value.new.values c.in_default.is c.in_ok-failure.ensures.added
      ∙ c.loop-expr.invariant.added;
  vars = c.in_ok-failure.ensures.vars ∙ c.loop-expr.invariant.vars;
}

pub returns-clause-added : goal.returns-clause-added
returns-clause-added c =
    sym c.loop-expr.invariant.added
    ∙ all_end (site_of c.args.place.now) c.loop-expr.running.vars (held_of c.loop-expr.running) c.loop-expr.running.steps c.args.exprs.now c.loop-expr.expr-index c.loop-expr.values c.loop-expr-test.false
