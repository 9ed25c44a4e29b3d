use Rattle.std.proofs.Common.{refl, sym, true≢false}
use Rattle.source_meaning.proofs.RecordLaws.{own_found, own_missed}
use Rattle.source_meaning.proofs.records.own_record.Goals as goal

pub returns-then-same : goal.returns-then-same
returns-then-same c = own_found c.args.me.now c.args.at.now c.args.fields.now (c.if-same.ensures.0 refl)

pub returns-else-same : goal.returns-else-same
returns-else-same c = own_missed c.args.me.now c.args.at.now c.args.fields.now (λ same. true≢false (sym (c.if-same.ensures.1 same)))
