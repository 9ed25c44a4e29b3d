use Rattle.std.proofs.Common.{◌≡◌, take}
use Rattle.live_vars.specs.Saved.{lists_of, sets_of}
use Rattle.live_vars.proofs.name_lists.saved.Given as goal

abbrev pub invariant-loop-set : goal.invariant-loop-set
invariant-loop-set l = lists_of l.lists ≡ sets_of (take l.set-index l.set-items)
