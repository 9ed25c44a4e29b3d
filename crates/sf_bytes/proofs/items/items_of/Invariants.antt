use Rattle.std.proofs.Common.{◌≡◌, ◌-◌}
use Rattle.sf_bytes.specs.Reading.{items_at}
use Rattle.sf_bytes.proofs.Loops.{with_front}
use Rattle.sf_bytes.proofs.items.items_of.Given as goal

abbrev pub invariant-loop : goal.invariant-loop
invariant-loop g l = with_front l.items (items_at g.T.Item.reads (l.count - l.counter) l.rest) ≡ items_at g.T.Item.reads l.count l.bytes
