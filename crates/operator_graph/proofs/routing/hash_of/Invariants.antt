use Rattle.std.proofs.Common.{◌≡◌, drop}
use Rattle.operator_graph.specs.Routing.{hash_from, hash_of}
use Rattle.operator_graph.proofs.routing.hash_of.Given as goal

-- what is left goes into the hash behind what was
abbrev pub invariant-loop-byte : goal.invariant-loop-byte
invariant-loop-byte l = hash_from l.hash (drop l.byte-index l.key) ≡ hash_of l.key
