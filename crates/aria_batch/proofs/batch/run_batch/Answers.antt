use Rattle.std.proofs.Common.{◌≡◌, ◌<◌, ◌^◌, sym, arith, subst, length}
use Rattle.std.proofs.lemmas.List.{length-map}
use Rattle.sf_value.specs.declared.Request.{Request}
use Rattle.reservations.specs.Accesses.{accesses_of, access_of_work}
use Rattle.commit_order.specs.CommittedSerial.{IsSerial}
use Rattle.commit_order.proofs.BatchLaws.{committed_is_serial}
use Rattle.batch_events.specs.Vocabulary.{acts_of}
use Rattle.aria_batch.specs.BatchRun.{source_of}
use Rattle.aria_batch.proofs.batch.run_batch.Goals as goal

pub returns-clause-serial : goal.returns-clause-serial
returns-clause-serial g c =
    let src = source_of c.args.compiled.now in
    let snapshot = c.args.state.now.contents in
    let requests = c.args.requests.now in
    let works = c.in_ok-ended.ended.works in
    let are = c.in_ok-ended.ensures.works in
    let as_many = are.as_many in
    let few = c.requires.few in
    let acts : length (acts_of requests) ≡ length requests = length-map requests (λ (r : Request). r.act) in
    let accesses : length (accesses_of works) ≡ length works = length-map works access_of_work in
    let still_few : length (accesses_of works) < 2 ^ 32 = omega arith in
    subst (IsSerial src snapshot (acts_of requests) works) (sym c.in_ok-choice.ensures.committed)
    (committed_is_serial src snapshot (acts_of requests) works (g.R.CommitRule.choice c.args.rule.now (accesses_of works)) are (g.met.R.CommitRule.lawful c.args.rule.now (accesses_of works) still_few))
