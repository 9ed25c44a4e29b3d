use Rattle.std.proofs.Common.{sym, ap, ◌∙◌}
use Rattle.std.specs.Prelude.{option_map}
use Rattle.std.specs.Borrow.{Bor}
use Rattle.std.proofs.lemmas.List.{length-map}
use Rattle.entity_tables.specs.declared.table.ClassTable.{ClassTable}
use Rattle.entity_tables.specs.Views.{plain_field, plain_table}
use Rattle.program_meaning.specs.Sources.{source_of}
use Rattle.program_upgrade.specs.Defaults.{defaults_behind}
use Rattle.program_upgrade.specs.UpgradeRules.{first_of, table_rules}
use Rattle.program_upgrade.proofs.RuleLaws.{class_changed, class_without, class_follows}
use Rattle.program_upgrade.proofs.planning.plan_class.Goals as goal

pub returns-in-Some-changed : goal.returns-in-Some-changed
returns-in-Some-changed c =
    class_changed (source_of c.args.earlier.now) (source_of c.args.later.now) c.args.class (plain_table c.args.table.now) (plain_table c.in-Some.beside.now) (sym c.requires ∙ ap (option_map (λ (t : Bor ClassTable). plain_table t.now)) c.in-Some.is) c.in-Some-changed.rule
    ((λ i. first_of (table_rules (sym c.names.ensures i) (sym c.names-2.ensures i) (plain_table c.args.table.now) (plain_table c.in-Some.beside.now))) ∙ sym c.in-Some-changed.ensures)

pub returns-in-Some-2 : goal.returns-in-Some-2
returns-in-Some-2 c =
    let gives = ap (defaults_behind (source_of c.args.later.now) c.args.class) (length-map c.args.table.now.fields plain_field ∙ sym c.len.ensures) ∙ sym c.in_ok-values.ensures ∙ c.in-Some-2.is in
    (class_follows (source_of c.args.earlier.now) (source_of c.args.later.now) c.args.class (plain_table c.args.table.now) (plain_table c.in-Some.beside.now) (sym c.requires ∙ ap (option_map (λ (t : Bor ClassTable). plain_table t.now)) c.in-Some.is) c.in-Some-2.values ((λ i. first_of (table_rules (sym c.names.ensures i) (sym c.names-2.ensures i) (plain_table c.args.table.now) (plain_table c.in-Some.beside.now))) ∙ sym c.in_default-changed.ensures) gives, gives)

pub returns-in-None : goal.returns-in-None
returns-in-None c =
    class_without (source_of c.args.earlier.now) (source_of c.args.later.now) c.args.class (plain_table c.args.table.now) (plain_table c.in-Some.beside.now) (sym c.requires ∙ ap (option_map (λ (t : Bor ClassTable). plain_table t.now)) c.in-Some.is) ((λ i. first_of (table_rules (sym c.names.ensures i) (sym c.names-2.ensures i) (plain_table c.args.table.now) (plain_table c.in-Some.beside.now))) ∙ sym c.in_default-changed.ensures)
    (ap (defaults_behind (source_of c.args.later.now) c.args.class) (length-map c.args.table.now.fields plain_field ∙ sym c.len.ensures) ∙ sym c.in_ok-values.ensures ∙ c.in-None.is)
