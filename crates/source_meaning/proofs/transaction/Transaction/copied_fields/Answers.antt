use Rattle.std.proofs.Common.{ap, []}
use Rattle.std.specs.Prelude.{unwrap_or}
use Rattle.source_meaning.proofs.CloneLaws.{copied_as}
use Rattle.source_meaning.proofs.transaction.Transaction.copied_fields.Goals as goal

pub returns-in-Some : goal.returns-in-Some
returns-in-Some c = copied_as c.try_clone.result c.in-Some.fields.now _ c.try_clone.ensures (ap (λ o. unwrap_or o []) c.in-Some.ensures)
