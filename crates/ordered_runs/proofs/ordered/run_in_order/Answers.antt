use Rattle.std.proofs.Common.{ap, sym, ◌∙◌}
use Rattle.std.specs.List.{range_with_len}
use Rattle.std.proofs.lemmas.List.{length-map}
use Rattle.sf_value.specs.declared.Request.{Request}
use Rattle.aria_batch.specs.Vocabulary.{acts_of}
use Rattle.aria_batch.specs.BatchRun.{source_of}
use Rattle.ordered_runs.proofs.TogetherLaws.{in_order}
use Rattle.ordered_runs.proofs.ordered.run_in_order.Goals as goal

pub returns-then-takes_all : goal.returns-then-takes_all
returns-then-takes_all c =
    in_order (source_of c.args.compiled.now) c.args.state.now.contents (acts_of c.args.requests.now) c.in_ok-committed.field-0 c.in_ok-committed.ensures
    (c.takes_all.ensures.0 c.if-takes_all.true ∙ ap (range_with_len 0) (c.len.ensures ∙ sym (length-map c.args.requests.now (λ (r : Request). r.act))))
