use Rattle.std.proofs.Common.{◌≡◌, take}
use Rattle.engine.proofs.copying.copies_of.Given as goal

abbrev pub invariant-loop-request : goal.invariant-loop-request
invariant-loop-request l = l.copies ≡ take l.request-index l.requests
