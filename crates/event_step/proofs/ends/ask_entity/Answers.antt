use Rattle.std.proofs.Common.{subst}
use Rattle.sf_value.specs.Keys.{key_of}
use Rattle.block_code.specs.PlainBlocks.{plain_catches}
use Rattle.event_step.specs.Turns.{Waited}
use Rattle.event_step.proofs.TurnLaws.{asked, ask_fails}
use Rattle.event_step.proofs.ends.ask_entity.Goals as goal

pub returns-in-Ok-None : goal.returns-in-Ok-None
returns-in-Ok-None c = λ called.
    asked c.args.place.now c.args.number (plain_catches c.args.catches.now) c.args.running.now c.wait.new.steps called c.args.args c.args.to
    (subst (λ o. Waited o c.args.place.now c.args.running.now.steps c.wait.new.steps) c.in-Ok-None.field-0-is c.in-Ok-None.ensures)

pub returns-in-Ok-Some : goal.returns-in-Ok-Some
returns-in-Ok-Some c = λ called.
    ask_fails c.args.place.now c.args.number (plain_catches c.args.catches.now) c.args.running.now c.wait.new.steps (key_of c.args.to) called c.args.args c.in-Ok-Some.failure c.fall.result
    (subst (λ o. Waited o c.args.place.now c.args.running.now.steps c.wait.new.steps) c.in-Ok-Some.field-0-is c.in-Ok-Some.ensures) c.fall.ensures
