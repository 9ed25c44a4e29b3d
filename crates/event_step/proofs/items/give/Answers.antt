use Rattle.py_tree.specs.PlainExpressions.{plain_expr}
use Rattle.event_step.proofs.ItemLaws.{give_returns, give_fails}
use Rattle.event_step.proofs.items.give.Goals as goal

pub returns-in-Value : goal.returns-in-Value
returns-in-Value c = give_returns c.args.place.now c.args.running.now c.value.new.running c.in_ok-value.ensures.vars (plain_expr c.args.expr.now) c.in_ok-value.field-0 c.in_ok-value.ensures.given c.in-Value.value c.in-Value.is

pub returns-in-Failed : goal.returns-in-Failed
returns-in-Failed c = give_fails c.args.place.now c.args.running.now c.value.new.running c.in_ok-value.ensures.vars (plain_expr c.args.expr.now) c.in_ok-value.field-0 c.in_ok-value.ensures.given c.in-Failed.failure c.in-Failed.is
