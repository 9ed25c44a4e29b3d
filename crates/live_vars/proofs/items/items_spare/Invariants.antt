use Rattle.std.proofs.Common.{◌≡◌, drop}
use Rattle.block_code.specs.PlainBlocks.{plain_items}
use Rattle.live_laws.specs.Live.{items_spare}
use Rattle.live_vars.proofs.items.items_spare.Given as goal

abbrev pub invariant-loop-item : goal.invariant-loop-item
invariant-loop-item l = items_spare (plain_items (drop l.item-index l.items)) l.name.0 ≡ items_spare (plain_items l.items) l.name.0
