use Rattle.std.proofs.Common.{◌≡◌, take}
use Rattle.engine.specs.Batches.{requests_at}
use Rattle.engine.proofs.copying.requests_at.Given as goal

abbrev pub invariant-loop-place : goal.invariant-loop-place
invariant-loop-place l = l.copies ≡ requests_at l.requests (take l.place-index l.places)
