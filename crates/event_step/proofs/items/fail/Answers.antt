use Rattle.std.proofs.Common.{sym, subst}
use Rattle.py_tree.specs.PlainExpressions.{plain_expr}
use Rattle.py_tree.specs.PlainStatements.{plain_option}
use Rattle.source_meaning.specs.declared.here.Ended.TheVariants as ended
use Rattle.block_code.specs.PlainBlocks.{IFail}
use Rattle.event_step.specs.ItemEnds.{EndsNow, item_at}
use Rattle.event_step.proofs.ItemLaws.{fail_bare, fail_noted, fail_fails}
use Rattle.event_step.proofs.items.fail.Goals as goal

pub returns-in_default : goal.returns-in_default
returns-in_default c =
    subst (λ n. EndsNow (ended.Failed c.in_ok-bare_failure.field-0) c.args.running.now (item_at c.args.place.now (IFail c.args.kind (plain_option plain_expr n)) c.args.running.now)) (sym c.in_default.is)
    (fail_bare c.args.place.now c.args.running.now c.args.kind c.in_ok-bare_failure.field-0 c.in_ok-bare_failure.ensures)

pub returns-in_ok-message-in-Value : goal.returns-in_ok-message-in-Value
returns-in_ok-message-in-Value c =
    subst (λ n. EndsNow (ended.Failed (record { kind = c.args.kind; message = c.in_ok-message-in-Value.message })) c.value.new.running (item_at c.args.place.now (IFail c.args.kind (plain_option plain_expr n)) c.args.running.now)) (sym c.in-Some.is) (fail_noted c.args.place.now c.args.running.now c.value.new.running c.in_ok-value.ensures.vars (plain_expr c.in-Some.expr) c.in_ok-value.field-0 c.in_ok-value.ensures.given c.args.kind c.in-Value.value c.in_ok-message-in-Value.message c.in-Value.is c.in_ok-message-in-Value.ensures)

pub returns-in-Failed : goal.returns-in-Failed
returns-in-Failed c =
    subst (λ n. EndsNow (ended.Failed c.in-Failed.failure) c.value.new.running (item_at c.args.place.now (IFail c.args.kind (plain_option plain_expr n)) c.args.running.now)) (sym c.in-Some.is) (fail_fails c.args.place.now c.args.running.now c.value.new.running c.in_ok-value.ensures.vars (plain_expr c.in-Some.expr) c.in_ok-value.field-0 c.in_ok-value.ensures.given c.args.kind c.in-Failed.failure c.in-Failed.is)
