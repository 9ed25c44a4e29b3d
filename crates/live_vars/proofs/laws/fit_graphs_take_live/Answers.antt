use Rattle.live_vars.proofs.CutSoFar.{live_are_params}
use Rattle.live_vars.proofs.laws.fit_graphs_take_live.Goals as goal

pub returns : goal.returns
returns c = live_are_params
