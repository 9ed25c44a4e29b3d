use Rattle.std.proofs.Common.{◌≡◌, not, nat_eq}
use Rattle.std.specs.Prelude.{filter}
use Rattle.std.specs.List.{list_any, range_with_len}
use Rattle.engine.specs.Batches.{requests_at}
use Rattle.engine.proofs.copying.others_of.Given as goal

abbrev pub invariant-loop-i : goal.invariant-loop-i
invariant-loop-i l = l.copies ≡ requests_at l.requests (filter (λ place. not (list_any (nat_eq place) l.places)) (range_with_len 0 l.i))
