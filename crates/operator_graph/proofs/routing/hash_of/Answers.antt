use Rattle.std.proofs.Common.{◌∙◌, sym}
use Rattle.operator_graph.proofs.RoutingLaws.{byte_more, byte_none}
use Rattle.operator_graph.proofs.routing.hash_of.Goals as goal

pub loop-byte-preserved : goal.loop-byte-preserved
loop-byte-preserved c = byte_more c.args.key.now c.loop-byte.byte-index c.loop-byte.hash c.loop-byte-test.true c.loop-byte.invariant

pub returns : goal.returns
returns c = sym (byte_none c.args.key.now c.loop-byte.byte-index c.loop-byte.hash c.loop-byte-test.false) ∙ c.loop-byte.invariant
