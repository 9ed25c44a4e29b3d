use Rattle.std.proofs.Common.{take}
use Rattle.std.specs.List.{flat_map, AllByRecursion}
use Rattle.sf_bytes.proofs.items.put_items.Given as goal

abbrev pub invariant-loop-item : goal.invariant-loop-item
invariant-loop-item g l = g.O.Out.puts l.fn.out l.fn.on l.out l.on (flat_map g.T.Item.bytes_of (take l.item-index l.items)) × AllByRecursion g.T.Item.is_real (take l.item-index l.items)
