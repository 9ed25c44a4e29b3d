use Rattle.std.proofs.Common.{◌≤◌, ◌<◌, ℕ, length, sym, subst}
use Rattle.std.specs.Prelude.{slice_index_or}
use Rattle.entity_tables.specs.declared.table.ClassTable.{ClassTable}
use Rattle.block_code.proofs.GraphLaws.{few_tables, few_in_table}
use Rattle.block_code.proofs.graph.Graph.new.Goals as goal

pub firsts_of-requires-clause-few : goal.firsts_of-requires-clause-few
firsts_of-requires-clause-few c = subst (λ ts. length ts ≤ 256) (sym c.as_slice.ensures) (few_tables _ _ c.in_ok-tables.tables c.args.program.now.rules.classes c.in_ok-tables.ensures)

pub firsts_of-requires-clause-few_methods : goal.firsts_of-requires-clause-few_methods
firsts_of-requires-clause-few_methods c =
    subst (λ ts. (k : ℕ) (d : ClassTable) → k < length ts → length (slice_index_or ts k d).methods ≤ 256) (sym c.as_slice.ensures)
    (few_in_table _ _ c.in_ok-tables.tables c.args.program.now.rules.classes c.in_ok-tables.ensures)
