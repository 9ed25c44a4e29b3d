use Rattle.py_tree.specs.PlainExpressions.{plain_expr}
use Rattle.event_step.proofs.ItemLaws.{set_goes, set_fails}
use Rattle.event_step.proofs.items.set.Goals as goal

pub returns-in_ok-assign_local-in-Value : goal.returns-in_ok-assign_local-in-Value
returns-in_ok-assign_local-in-Value c = set_goes c.args.place.now c.args.running.now c.value.new.running c.in_ok-value.ensures.vars (plain_expr c.args.expr.now) c.in_ok-value.field-0 c.in_ok-value.ensures.given c.args.name.0 c.in-Value.value c.assign_local.new.vars c.in-Value.is c.in_ok-assign_local-in-Value.ensures

pub returns-in-Failed : goal.returns-in-Failed
returns-in-Failed c = set_fails c.args.place.now c.args.running.now c.value.new.running c.in_ok-value.ensures.vars (plain_expr c.args.expr.now) c.in_ok-value.field-0 c.in_ok-value.ensures.given c.args.name.0 c.in-Failed.failure c.in-Failed.is
