use Rattle.std.proofs.Common.{subst}
use Rattle.py_tree.specs.PlainExpressions.{plain_expr, plain_exprs, exprs_of}
use Rattle.block_code.specs.PlainBlocks.{plain_catches}
use Rattle.event_step.specs.Values.{PartsNow, parts_at}
use Rattle.event_step.proofs.TurnLaws.{call_given, call_fails}
use Rattle.event_step.proofs.ends.call.Goals as goal

pub returns-in-Given : goal.returns-in-Given
returns-in-Given c = λ class method into after.
    call_given c.args.place.now c.args.number (plain_catches c.args.catches.now) c.args.running.now c.call_parts.new.running c.in_ok-on.ensures.vars (plain_expr c.args.on.now) class method (exprs_of (plain_exprs c.args.args.now)) into after c.in-Given.on c.in-Given.args c.ask.result c.ask.new.running
    (subst (λ o. PartsNow o c.call_parts.new.running (parts_at c.args.place.now (plain_expr c.args.on.now) (exprs_of (plain_exprs c.args.args.now)) c.args.running.now)) c.in-Given.is c.in_ok-on.ensures.given) c.ask.ensures

pub returns-in-Failed : goal.returns-in-Failed
returns-in-Failed c = λ class method into after.
    call_fails c.args.place.now c.args.number (plain_catches c.args.catches.now) c.args.running.now c.call_parts.new.running c.in_ok-on.ensures.vars (plain_expr c.args.on.now) class method (exprs_of (plain_exprs c.args.args.now)) into after c.in-Failed.failure c.fall.result
    (subst (λ o. PartsNow o c.call_parts.new.running (parts_at c.args.place.now (plain_expr c.args.on.now) (exprs_of (plain_exprs c.args.args.now)) c.args.running.now)) c.in-Failed.is c.in_ok-on.ensures.given) c.fall.ensures
