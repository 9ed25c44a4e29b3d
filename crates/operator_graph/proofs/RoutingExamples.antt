-- Partitions worked out by hand.
use Rattle.std.proofs.Common.{◌≡◌, [], refl}
use Rattle.std.specs.Prelude.{codes}
use Rattle.operator_graph.specs.Routing.{hash_from, partition}

no_bytes : partition [] 4 ≡ 0
unfolding hash_from
no_bytes = refl

apple : partition (codes "apple") 4 ≡ 2
unfolding hash_from
apple = refl
