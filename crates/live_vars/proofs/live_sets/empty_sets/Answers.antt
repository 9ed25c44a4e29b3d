use Rattle.live_vars.proofs.SetRules.{none_begin}
use Rattle.live_vars.proofs.live_sets.empty_sets.Goals as goal

pub loop-init : goal.loop-init
loop-init c = none_begin c.new-sets.result c.new-sets.ensures
