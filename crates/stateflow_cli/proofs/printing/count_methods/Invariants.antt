use Rattle.std.proofs.Common.{◌≡◌, length, take}
use Rattle.std.specs.List.{sum_by}
use Rattle.entity_tables.specs.declared.table.ClassTable.{ClassTable}
use Rattle.stateflow_cli.proofs.printing.count_methods.Given as goal

-- the methods of the first classes were counted
abbrev pub invariant-loop-table : goal.invariant-loop-table
invariant-loop-table l = l.count ≡ sum_by (λ (t : ClassTable). length t.methods) (take l.table-index l.tables)
