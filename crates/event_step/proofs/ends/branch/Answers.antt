use Rattle.std.proofs.Common.{Ok, sym, subst}
use Rattle.std.specs.Prelude.{if◌then◌else◌}
use Rattle.py_tree.specs.PlainExpressions.{plain_expr}
use Rattle.block_code.specs.PlainBlocks.{EBranch, plain_catches}
use Rattle.event_step.specs.declared.method.Turn.TheVariants as turn
use Rattle.event_step.specs.Values.{GivesNow, value_at}
use Rattle.event_step.specs.Turns.{TurnsAs, ending_at}
use Rattle.event_step.proofs.TurnLaws.{branched, branch_fails}
use Rattle.event_step.proofs.ends.branch.Goals as goal

pub returns-then-take_truth : goal.returns-then-take_truth
returns-then-take_truth c =
    subst (λ b. TurnsAs (Ok (turn.Goes (if b then c.args.holds else c.args.other))) c.value.new.running (ending_at c.args.place.now c.args.number (plain_catches c.args.catches.now) (EBranch (plain_expr c.args.test.now) c.args.holds c.args.other) c.args.running.now)) (sym c.if-take_truth.ensures)
    (branched c.args.place.now c.args.number (plain_catches c.args.catches.now) c.args.running.now c.value.new.running c.in_ok-value.ensures.vars (plain_expr c.args.test.now) c.args.holds c.args.other c.in-Value.value
    (subst (λ o. GivesNow o c.value.new.running (value_at c.args.place.now (plain_expr c.args.test.now) c.args.running.now)) c.in-Value.is c.in_ok-value.ensures.given))

pub returns-else-take_truth : goal.returns-else-take_truth
returns-else-take_truth c =
    subst (λ b. TurnsAs (Ok (turn.Goes (if b then c.args.holds else c.args.other))) c.value.new.running (ending_at c.args.place.now c.args.number (plain_catches c.args.catches.now) (EBranch (plain_expr c.args.test.now) c.args.holds c.args.other) c.args.running.now)) (sym c.if-take_truth.ensures)
    (branched c.args.place.now c.args.number (plain_catches c.args.catches.now) c.args.running.now c.value.new.running c.in_ok-value.ensures.vars (plain_expr c.args.test.now) c.args.holds c.args.other c.in-Value.value
    (subst (λ o. GivesNow o c.value.new.running (value_at c.args.place.now (plain_expr c.args.test.now) c.args.running.now)) c.in-Value.is c.in_ok-value.ensures.given))

pub returns-in-Failed : goal.returns-in-Failed
returns-in-Failed c =
    branch_fails c.args.place.now c.args.number (plain_catches c.args.catches.now) c.args.running.now c.value.new.running c.in_ok-value.ensures.vars (plain_expr c.args.test.now) c.args.holds c.args.other c.in-Failed.failure c.fall.result
    (subst (λ o. GivesNow o c.value.new.running (value_at c.args.place.now (plain_expr c.args.test.now) c.args.running.now)) c.in-Failed.is c.in_ok-value.ensures.given) c.fall.ensures
