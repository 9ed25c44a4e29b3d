use Rattle.std.proofs.Common.{ap, sym, ◌∙◌}
use Rattle.std.specs.Option.{option_map}
use Rattle.entity_tables.specs.Views.{plain_table, plain_tables}
use Rattle.program_fit.proofs.FitTests.{entity_test}
use Rattle.program_fit.proofs.values.entity_fits.Goals as goal

pub returns-in-Some : goal.returns-in-Some
returns-in-Some c = entity_test (plain_tables c.args.tables.now) c.args.class.0 c.args.at.now (plain_table c.in-Some.table.now) (sym c.table_of.ensures ∙ ap (option_map (λ t. plain_table t.now)) c.in-Some.is)
