use Rattle.std.proofs.Common.{drop}
use Rattle.block_code.specs.PlainBlocks.{plain_items}
use Rattle.event_step.specs.ItemEnds.{items_at}
use Rattle.event_step.proofs.ItemLaws.{LeadsTo}
use Rattle.event_step.proofs.items.run_items.Given as goal

abbrev pub invariant-loop-item : goal.invariant-loop-item
invariant-loop-item l = LeadsTo (items_at l.place (plain_items (drop l.item-index l.items)) l.running) (items_at l.place (plain_items l.items) l.initial.running)
