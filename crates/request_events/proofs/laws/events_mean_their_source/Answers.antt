use Rattle.request_events.proofs.Requests.{events_mean_their_source}
use Rattle.request_events.proofs.laws.events_mean_their_source.Goals as goal

pub returns : goal.returns
returns c = events_mean_their_source
