use Rattle.std.proofs.Common.{◌≡◌}
use Rattle.live_vars.specs.Saved.{sets_of, none_for}
use Rattle.live_vars.proofs.live_sets.empty_sets.Given as goal

abbrev pub invariant-loop : goal.invariant-loop
invariant-loop l = sets_of l.sets ≡ none_for l.counter
