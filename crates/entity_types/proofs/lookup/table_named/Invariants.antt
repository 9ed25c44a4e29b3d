use Rattle.std.proofs.Common.{◌≡◌, drop}
use Rattle.py_tree.specs.ExpressionTypes.{table_named}
use Rattle.entity_tables.specs.Views.{plain_tables}
use Rattle.entity_types.proofs.lookup.table_named.Given as goal

abbrev pub invariant-loop-table : goal.invariant-loop-table
invariant-loop-table l = table_named (plain_tables l.tables) l.name.0 ≡ table_named (plain_tables (drop l.table-index l.tables)) l.name.0
