use Rattle.std.proofs.Common.{◌≡◌, take}
use Rattle.ordered_runs.proofs.copying.copy_of_works.Given as goal

abbrev pub invariant-loop-work : goal.invariant-loop-work
invariant-loop-work l = l.made ≡ take l.work-index l.works
