use Rattle.event_step.proofs.ItemLaws.{mark_goes, mark_fails}
use Rattle.event_step.proofs.items.mark.Goals as goal

pub returns-in-None : goal.returns-in-None
returns-in-None c = mark_goes c.args.place.now c.args.running.now c.take_step.new.steps c.in_ok-take_step.field-0 c.in-None.is c.in_ok-take_step.ensures

pub returns-in-Some : goal.returns-in-Some
returns-in-Some c = mark_fails c.args.place.now c.args.running.now c.take_step.new.steps c.in_ok-take_step.field-0 c.in-Some.failure c.in-Some.is c.in_ok-take_step.ensures
