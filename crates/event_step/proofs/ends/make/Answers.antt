use Rattle.std.proofs.Common.{subst}
use Rattle.py_tree.specs.PlainExpressions.{plain_exprs, exprs_of}
use Rattle.block_code.specs.PlainBlocks.{plain_catches}
use Rattle.event_step.specs.declared.values.All.TheVariants as all
use Rattle.event_step.specs.Values.{AllNow, values_at}
use Rattle.event_step.proofs.TurnLaws.{make_given, make_fails}
use Rattle.event_step.proofs.ends.make.Goals as goal

pub returns-in-Given : goal.returns-in-Given
returns-in-Given c = λ into after.
    make_given c.args.place.now c.args.number (plain_catches c.args.catches.now) c.args.running.now c.all_values.new.running c.in_ok-args.ensures.vars c.args.class (exprs_of (plain_exprs c.args.args.now)) into after c.in-Given.args c.want.result c.want.new.running
    (subst (λ l. AllNow (all.Given c.in-Given.args) c.all_values.new.running (values_at c.args.place.now (exprs_of (plain_exprs l)) c.args.running.now)) c.as_slice.ensures (subst (λ o. AllNow o c.all_values.new.running (values_at c.args.place.now (exprs_of (plain_exprs c.as_slice.result.now)) c.args.running.now)) c.in-Given.is c.in_ok-args.ensures.given)) c.want.ensures

pub returns-in-Failed : goal.returns-in-Failed
returns-in-Failed c = λ into after.
    make_fails c.args.place.now c.args.number (plain_catches c.args.catches.now) c.args.running.now c.all_values.new.running c.in_ok-args.ensures.vars c.args.class (exprs_of (plain_exprs c.args.args.now)) into after c.in-Failed.failure c.fall.result
    (subst (λ l. AllNow (all.Failed c.in-Failed.failure) c.all_values.new.running (values_at c.args.place.now (exprs_of (plain_exprs l)) c.args.running.now)) c.as_slice.ensures (subst (λ o. AllNow o c.all_values.new.running (values_at c.args.place.now (exprs_of (plain_exprs c.as_slice.result.now)) c.args.running.now)) c.in-Failed.is c.in_ok-args.ensures.given)) c.fall.ensures
