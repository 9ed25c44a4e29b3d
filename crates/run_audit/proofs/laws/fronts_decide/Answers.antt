use Rattle.run_audit.proofs.FrontsDecide.{fronts_decide}
use Rattle.run_audit.proofs.laws.fronts_decide.Goals as goal

pub returns : goal.returns
returns c = fronts_decide
