use Rattle.std.proofs.Common.{◌+◌, arith, ap, length}
use Rattle.std.proofs.lemmas.List.Sums.{sum_by_more, sum_by-take-le}
use Rattle.entity_tables.specs.declared.table.ClassTable.{ClassTable}
use Rattle.stateflow_cli.proofs.printing.count_methods.Goals as goal

pub overflow_add-count : goal.overflow_add-count
overflow_add-count c =
    let more = sum_by_more (λ (t : ClassTable). length t.methods) c.args.tables.now c.loop-table.table-index c.table-item.result c.loop-table-test.true in
    let item = ap (λ (t : ClassTable). length t.methods) c.table-item.is in
    let whole = sum_by-take-le (λ (t : ClassTable). length t.methods) c.args.tables.now (c.loop-table.table-index + 1) in
    omega (arith, c.loop-table.invariant, more, item, whole, c.len.ensures, c.requires)

pub loop-table-preserved : goal.loop-table-preserved
loop-table-preserved c =
    let more = sum_by_more (λ (t : ClassTable). length t.methods) c.args.tables.now c.loop-table.table-index c.table-item.result c.loop-table-test.true in
    let item = ap (λ (t : ClassTable). length t.methods) c.table-item.is in
    omega (arith, c.loop-table.invariant, more, item, c.len.ensures)
