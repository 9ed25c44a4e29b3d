use Rattle.std.proofs.Common.{◌≡◌, take}
use Rattle.engine.specs.Copying.{entries_at}
use Rattle.engine.proofs.copying.entries_at.Given as goal

abbrev pub invariant-loop-place : goal.invariant-loop-place
invariant-loop-place l = l.entries ≡ entries_at l.requests l.outcomes (take l.place-index l.places)
