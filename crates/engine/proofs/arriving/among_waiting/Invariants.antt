use Rattle.std.proofs.Common.{◌≡◌, drop}
use Rattle.engine.specs.Arrivals.{waiting_with}
use Rattle.engine.proofs.arriving.among_waiting.Given as goal

abbrev pub invariant-loop-waiting : goal.invariant-loop-waiting
invariant-loop-waiting l = waiting_with (drop l.waiting-index l.pending) l.request.id ≡ waiting_with l.pending l.request.id
