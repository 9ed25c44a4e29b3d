use Rattle.std.proofs.Common.{sym, ◌∙◌}
use Rattle.sf_value.specs.declared.Request.{Request}
use Rattle.kept_parts.specs.Ids.{entry_ids}
use Rattle.kept_parts.proofs.EachLaws.{fails}
use Rattle.kept_parts.proofs.IdLaws.{next_new, next_taken}
use Rattle.kept_parts.proofs.ids.ids_differ.Goals as goal

pub returns-then-is_taken : goal.returns-then-is_taken
returns-then-is_taken c =
    fails (next_taken (λ (r : Request). r.id) (entry_ids c.args.history.now.entries) c.args.requests.now c.loop-i.i c.index-requests-i.result c.loop-i-test.true c.index-requests-i.is (sym c.is_taken.ensures ∙ c.if-is_taken.true))

pub loop-i-preserved : goal.loop-i-preserved
loop-i-preserved c =
    next_new (λ (r : Request). r.id) (entry_ids c.args.history.now.entries) c.args.requests.now c.loop-i.i c.index-requests-i.result c.loop-i-test.true c.index-requests-i.is c.loop-i.invariant (sym c.is_taken.ensures ∙ c.if-is_taken.false)
