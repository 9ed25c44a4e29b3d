use Rattle.std.proofs.Common.{ap, ◌∙◌, ◌<◌, ◌^◌, sym, subst, length, List}
use Rattle.std.specs.List.{sum_by}
use Rattle.py_tree.specs.CheckedViews.{checked_program, checked_names}
use Rattle.entity_tables.specs.declared.table.ClassTable.{ClassTable}
use Rattle.stateflow_cli.proofs.CountLaws.{few_counted}
use Rattle.stateflow_cli.proofs.LoadLaws.{counted}
use Rattle.stateflow_cli.proofs.loading.read_counts.Goals as goal

pub of-requires : goal.of-requires
of-requires c =
    let a = c.in_ok-accepted.accepted in
    subst (λ (ts : List ClassTable). sum_by (λ t. length t.methods) ts < 2 ^ 64) (sym c.as_slice.ensures)
    (few_counted (checked_names a.program) (checked_program a.program) a.tables c.in_ok-accepted.ensures.tables c.in_ok-accepted.ensures.is_accepted.rules)

pub returns : goal.returns
returns c =
    counted c.args.text.now c.in_ok-accepted.accepted c.of.result c.in_ok-accepted.ensures (c.of.ensures.classes ∙ ap length c.as_slice.ensures)
    (c.of.ensures.methods ∙ ap (λ (ts : List ClassTable). sum_by (λ t. length t.methods) ts) c.as_slice.ensures)
