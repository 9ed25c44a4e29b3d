use Rattle.std.proofs.Common.{Ok, sym, subst}
use Rattle.sf_value.specs.declared.value.Value.TheVariants as value
use Rattle.block_code.specs.PlainBlocks.{plain_catches, plain_end}
use Rattle.event_step.specs.declared.method.Part.TheVariants as part
use Rattle.event_step.specs.declared.method.Turn.TheVariants as turn
use Rattle.event_step.specs.Turns.{TurnsAs, ending_at}
use Rattle.event_step.proofs.TurnLaws.{jumps, leaves}
use Rattle.event_step.proofs.ends.run_end.Goals as goal

pub returns-in-Jump : goal.returns-in-Jump
returns-in-Jump c =
    subst (λ e. TurnsAs (Ok (turn.Goes c.in-Jump.to)) c.args.running.now (ending_at c.args.place.now c.args.number (plain_catches c.args.catches.now) (plain_end e) c.args.running.now)) (sym c.in-Jump.is)
    (jumps c.args.place.now c.args.number (plain_catches c.args.catches.now) c.in-Jump.to c.args.running.now)

pub returns-in-Leave : goal.returns-in-Leave
returns-in-Leave c =
    subst (λ e. TurnsAs (Ok (turn.Ends (part.Gave value.Nil))) c.args.running.now (ending_at c.args.place.now c.args.number (plain_catches c.args.catches.now) (plain_end e) c.args.running.now)) (sym c.in-Leave.is)
    (leaves c.args.place.now c.args.number (plain_catches c.args.catches.now) c.args.running.now)
