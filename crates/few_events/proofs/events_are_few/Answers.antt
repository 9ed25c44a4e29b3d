use Rattle.few_events.proofs.FewEvents.{events_are_few}
use Rattle.few_events.proofs.events_are_few.Goals as goal

pub returns : goal.returns
returns g c = events_are_few
