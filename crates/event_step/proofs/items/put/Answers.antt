use Rattle.py_tree.specs.PlainExpressions.{plain_expr}
use Rattle.event_step.proofs.ItemLaws.{put_goes, put_fails}
use Rattle.event_step.proofs.items.put.Goals as goal

pub returns-in-Value : goal.returns-in-Value
returns-in-Value c = put_goes c.args.place.now c.args.running.now c.value.new.running c.in_ok-value.ensures.vars (plain_expr c.args.expr.now) c.in_ok-value.field-0 c.in_ok-value.ensures.given c.args.name.0 c.in-Value.value c.assign_field.new.held c.in-Value.is c.assign_field.ensures

pub returns-in-Failed : goal.returns-in-Failed
returns-in-Failed c = put_fails c.args.place.now c.args.running.now c.value.new.running c.in_ok-value.ensures.vars (plain_expr c.args.expr.now) c.in_ok-value.field-0 c.in_ok-value.ensures.given c.args.name.0 c.in-Failed.failure c.in-Failed.is
