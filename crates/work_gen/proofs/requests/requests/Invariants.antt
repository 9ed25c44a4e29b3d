use Rattle.std.proofs.Common.{◌≡◌, ◌++◌, ◌+◌, ◌-◌}
use Rattle.work_gen.specs.Requests as spec
use Rattle.work_gen.proofs.requests.requests.Given as goal

-- what is left are the lines of the other requests
abbrev pub invariant-loop-before : goal.invariant-loop-before
invariant-loop-before l = l.input ++ spec.requests (l.size - l.before) (l.before + 1) l.state ≡ spec.requests l.size 1 l.number
