use Rattle.std.proofs.Common.{◌≡◌, map, take}
use Rattle.entity_types.proofs.known.whole.Given as goal

abbrev pub invariant-loop-local : goal.invariant-loop-local
invariant-loop-local l = l.not_none ≡ map (λ x. x.not_none) (take l.local-index l.local-items)
