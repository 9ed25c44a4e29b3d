use Rattle.std.proofs.Common.{◌≡◌, ◌≤◌, ◌*◌, ◌++◌, drop}
use Rattle.entity_tables.specs.Views.{plain_tables}
use Rattle.block_code.specs.Places.{firsts_from}
use Rattle.block_code.proofs.graph.firsts_of.Given as goal

-- what is still to come begins at this place, which so many classes reach at most
abbrev pub invariant-loop-table : goal.invariant-loop-table
invariant-loop-table l = (l.firsts ++ firsts_from l.place (plain_tables (drop l.table-index l.tables)) ≡ firsts_from 0 (plain_tables l.tables)) × (l.place ≤ 256 * l.table-index)
