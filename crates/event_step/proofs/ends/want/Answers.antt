use Rattle.std.proofs.Common.{subst}
use Rattle.block_code.specs.PlainBlocks.{plain_catches}
use Rattle.event_step.specs.Turns.{Waited}
use Rattle.event_step.proofs.TurnLaws.{wanted, want_fails}
use Rattle.event_step.proofs.ends.want.Goals as goal

pub returns-in-Ok-None : goal.returns-in-Ok-None
returns-in-Ok-None c =
    wanted c.args.place.now c.args.number (plain_catches c.args.catches.now) c.args.running.now c.wait.new.steps c.args.class c.args.args
    (subst (λ o. Waited o c.args.place.now c.args.running.now.steps c.wait.new.steps) c.in-Ok-None.field-0-is c.in-Ok-None.ensures)

pub returns-in-Ok-Some : goal.returns-in-Ok-Some
returns-in-Ok-Some c =
    want_fails c.args.place.now c.args.number (plain_catches c.args.catches.now) c.args.running.now c.wait.new.steps c.args.class c.args.args c.in-Ok-Some.failure c.fall.result
    (subst (λ o. Waited o c.args.place.now c.args.running.now.steps c.wait.new.steps) c.in-Ok-Some.field-0-is c.in-Ok-Some.ensures) c.fall.ensures
