use Rattle.std.proofs.Common.{◌∷◌, [], ◌++◌, ap, ◌∙◌}
use Rattle.keyed_state.specs.Works.{with_records, written_records}
use Rattle.aria_batch.specs.BatchRun.{source_of}
use Rattle.ordered_runs.proofs.TogetherLaws.{alone_of, alone_places, after_alone, on_ok, on_ok_then}
use Rattle.ordered_runs.proofs.one_by_one.run_next.Goals as goal

pub prepare-requires : goal.prepare-requires
prepare-requires c =
    let is = c.in_ok-push.ensures.ok ∙ (λ i. c.new-alone.ensures i ++ c.in_ok-try_clone.ensures i ∷ []) in
    let a = alone_of (source_of c.args.compiled.now) c.args.state.now.contents c.push.new.self c.args.request.now c.in_ok-committed.field-0 is c.in_ok-committed.ensures in
    alone_places c.in_ok-copies.copies c.in_ok-committed.field-0.committed a.work (c.in_ok-copies.ensures ∙ a.works) a.committed

pub apply-requires-clause-places : goal.apply-requires-clause-places
apply-requires-clause-places c =
    let is = c.in_ok-push.ensures.ok ∙ (λ i. c.new-alone.ensures i ++ c.in_ok-try_clone.ensures i ∷ []) in
    let a = alone_of (source_of c.args.compiled.now) c.args.state.now.contents c.push.new.self c.args.request.now c.in_ok-committed.field-0 is c.in_ok-committed.ensures in
    alone_places c.in_ok-copies.copies c.in_ok-committed.field-0.committed a.work (c.in_ok-copies.ensures ∙ a.works) a.committed

pub returns-clause-state : goal.returns-clause-state
returns-clause-state c =
    let is = c.in_ok-push.ensures.ok ∙ (λ i. c.new-alone.ensures i ++ c.in_ok-try_clone.ensures i ∷ []) in
    let a = alone_of (source_of c.args.compiled.now) c.args.state.now.contents c.push.new.self c.args.request.now c.in_ok-committed.field-0 is c.in_ok-committed.ensures in
    on_ok c.push-2.result
    (c.apply.ensures
    ∙ after_alone c.prepare.new.self.contents c.in_ok-copies.copies c.in_ok-committed.field-0.committed a.work (c.in_ok-copies.ensures ∙ a.works) a.committed
    ∙ ap (λ s. with_records s (written_records a.work)) c.prepare.ensures.contents
    ∙ a.writes)

pub returns-clause-joined : goal.returns-clause-joined
returns-clause-joined c =
    let is = c.in_ok-push.ensures.ok ∙ (λ i. c.new-alone.ensures i ++ c.in_ok-try_clone.ensures i ∷ []) in
    let a = alone_of (source_of c.args.compiled.now) c.args.state.now.contents c.push.new.self c.args.request.now c.in_ok-committed.field-0 is c.in_ok-committed.ensures in
    on_ok_then c.push-2.result c.push-2.ensures.ok (λ places. record {
      work = a.work;
      outcomes = c.in_ok-append.ensures.ok ∙ ap (λ l. c.args.ordered.now.outcomes ++ l) a.outcomes;
      works = c.in_ok-append-2.ensures.ok ∙ ap (λ l. c.args.ordered.now.works ++ l) a.works;
      places = places ∙ (λ i. c.args.ordered.now.places ++ c.len-place.ensures i ∷ []);
      writes = a.writes;
    })
