use Rattle.hoisted_callees.proofs.CalleesStand.{callees_stand}
use Rattle.hoisted_callees.proofs.laws.callees_stand.Goals as goal

pub returns : goal.returns
returns c = callees_stand
