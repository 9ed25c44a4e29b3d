use Rattle.std.proofs.Common.{false, ◌∙◌, refl, ap, sym, subst, Ok, Err}
use Rattle.std.proofs.lemmas.Result.{err_from_is_err_and}
use Rattle.engine.specs.EngineViews.{core_of, source_of}
use Rattle.session_store.specs.Stores.{settings_of}
use Rattle.session_store.specs.Vocabulary.{logged_of}
use Rattle.session_steps.specs.Vocabulary.{service_of}
use Rattle.session_steps.proofs.Vocabulary.{same_service, Logs-still, stays, then_goes}
use Rattle.session_steps.proofs.LoggedSteps.{Logged-run}
use Rattle.batch_session.proofs.LoggedLaws.{Logged-same, Logged-over, Logged-stop}
use Rattle.session_steps.specs.Doings.{LogsSteps}
use Rattle.session_steps.proofs.Composing.{Comes-passed, Comes-same}
use Rattle.session_steps.proofs.Endings.{runs as run_steps, Ending-none, Ending-more, more_count, Ending-over, Ending-stop}
use Rattle.batch_session.proofs.RunLaws.{some_wait}
use Rattle.batch_session.proofs.StateLaws.{passed_on, unwritten, then_writes, passed_writes}
use Rattle.batch_session.proofs.TurnLaws.{in_turn_passed}
use Rattle.batch_session.proofs.ending.run_waiting.Goals as goal

pub batches-init : goal.batches-init
batches-init g c = record {
  ending = λ lines. (
    Ending-none (service_of c.args.engine.now (g.R.CommitRule.choice c.args.terms.now.rule.now) c.args.terms.now.settings.now.batch c.args.terms.now.settings.now.parts) c.args.terms.now.settings.now.trace _,
    Logs-still (source_of c.args.engine.now) (g.R.CommitRule.choice c.args.terms.now.rule.now) c.args.store.now _ (logged_of c.args.engine.now) (logged_of c.args.engine.now) (g.D.Disk.facts c.args.disk.now) refl
        c.requires.ready.can_go_on.kept,
  );
  ready = c.requires.ready;
  goes_on = stays (g.R.CommitRule.choice c.args.terms.now.rule.now) _ c.requires.ready.can_go_on;
  writes = unwritten _ _;
}

pub batches-preserved : goal.batches-preserved
batches-preserved g c =
    let rule = g.R.CommitRule.choice c.args.terms.now.rule.now in
    let v = service_of c.args.engine.now rule c.args.terms.now.settings.now.batch c.args.terms.now.settings.now.parts in
    let here = service_of c.batches.engine rule c.args.terms.now.settings.now.batch c.args.terms.now.settings.now.parts in
    let traces = c.args.terms.now.settings.now.trace in
    let runs = c.batches.invariant.goes_on.runs in
    let same = same_service c.args.engine.now c.batches.engine runs rule c.args.terms.now.settings.now.batch c.args.terms.now.settings.now.parts in
    record {
      ending = λ lines.
          let so_far = c.batches.invariant.ending lines in
          let did = Comes-same v here traces (Ok (tt {0})) _ _ _ same (c.in_ok-run_batch.ensures.runs_one lines) in
          let fewer = c.in_ok-run_batch.ensures.fewer in (
            Ending-more v traces _ _ _ so_far.0 did fewer,
            subst (λ n. LogsSteps v (settings_of c.args.store.now) (core_of c.args.engine.now) lines (run_steps n) (logged_of c.args.engine.now) (logged_of c.run_batch.new.engine) (g.D.Disk.facts c.args.disk.now)
                (g.D.Disk.facts c.run_batch.new.disk)) (sym (more_count v traces _ _ _ so_far.0 did fewer))
                (Logged-run v (settings_of c.args.store.now) traces so_far.0.count _ _ _ _ _ _ _ _ so_far.0.did so_far.1
                (Logged-same v (settings_of c.args.store.now) here _ _ _ _ _ _ _ _ same c.batches.invariant.goes_on.settings (c.run_batch.ensures.logs lines))),
          );
      ready = c.in_ok-run_batch.ensures.ready;
      goes_on = then_goes rule false _ _ _ c.batches.invariant.goes_on c.in_ok-run_batch.ensures.goes_on;
      writes = then_writes false _ _ _ _ _ _ c.batches.invariant.writes c.in_ok-run_batch.ensures.writes;
    }

pub returns-in_err-run_batch-clause-runs_waiting : goal.returns-in_err-run_batch-clause-runs_waiting
returns-in_err-run_batch-clause-runs_waiting g c = λ lines.
    let p = err_from_is_err_and c.from_residual.result c.from_residual.ensures.1 in
    let rule = g.R.CommitRule.choice c.args.terms.now.rule.now in
    let v = service_of c.args.engine.now rule c.args.terms.now.settings.now.batch c.args.terms.now.settings.now.parts in
    let here = service_of c.batches.engine rule c.args.terms.now.settings.now.batch c.args.terms.now.settings.now.parts in
    let traces = c.args.terms.now.settings.now.trace in
    let same = same_service c.args.engine.now c.batches.engine c.batches.invariant.goes_on.runs rule c.args.terms.now.settings.now.batch c.args.terms.now.settings.now.parts in
    let some = some_wait c.is_empty.result c.pending.result.now c.batches.engine.pending c.is_empty.ensures c.batches-test.true c.pending.ensures in
    Comes-passed v traces (Unit {0}) _ _ _ _ _ (p.1 ∙ ap Err p.2)
    (Ending-stop v traces {T = Unit {0}} (Err _) _ _ _ refl (c.batches.invariant.ending lines).0 some (Comes-same {T = Unit {0}} v here traces (Err _) _ _ _ same (c.in_err-run_batch.ensures.runs_one lines)))

pub returns-clause-runs_waiting : goal.returns-clause-runs_waiting
returns-clause-runs_waiting g c = λ lines.
    let v = service_of c.args.engine.now (g.R.CommitRule.choice c.args.terms.now.rule.now) c.args.terms.now.settings.now.batch c.args.terms.now.settings.now.parts in
    Ending-over v c.args.terms.now.settings.now.trace _ _ (c.batches.invariant.ending lines).0 (sym c.pending.ensures ∙ c.is_empty.ensures.0 c.batches-test.false)

pub returns-in_err-run_batch-clause-goes_on : goal.returns-in_err-run_batch-clause-goes_on
returns-in_err-run_batch-clause-goes_on g c =
    let p = err_from_is_err_and c.from_residual.result c.from_residual.ensures.1 in
    let rule = g.R.CommitRule.choice c.args.terms.now.rule.now in
    passed_on rule c.from_residual.result _ _ _ (p.1 ∙ ap Err p.2) (then_goes rule _ _ _ _ c.batches.invariant.goes_on c.in_err-run_batch.ensures.goes_on)

pub returns-in_err-run_batch-clause-writes : goal.returns-in_err-run_batch-clause-writes
returns-in_err-run_batch-clause-writes g c =
    let p = err_from_is_err_and c.from_residual.result c.from_residual.ensures.1 in
    passed_writes c.from_residual.result _ _ _ _ _ (p.1 ∙ ap Err p.2) (then_writes _ _ _ _ _ _ _ c.batches.invariant.writes c.in_err-run_batch.ensures.writes)

pub returns-in_err-run_batch-clause-logs : goal.returns-in_err-run_batch-clause-logs
returns-in_err-run_batch-clause-logs g c = λ lines.
    let rule = g.R.CommitRule.choice c.args.terms.now.rule.now in
    let settings = settings_of c.args.store.now in
    let v = service_of c.args.engine.now rule c.args.terms.now.settings.now.batch c.args.terms.now.settings.now.parts in
    let here = service_of c.batches.engine rule c.args.terms.now.settings.now.batch c.args.terms.now.settings.now.parts in
    let same = same_service c.args.engine.now c.batches.engine c.batches.invariant.goes_on.runs rule c.args.terms.now.settings.now.batch c.args.terms.now.settings.now.parts in
    let some = some_wait c.is_empty.result c.pending.result.now c.batches.engine.pending c.is_empty.ensures c.batches-test.true c.pending.ensures in
    let so_far = c.batches.invariant.ending lines in
    Logged-stop v settings c.args.terms.now.settings.now.trace _ _ _ _ _ _ so_far.0 so_far.1 _ _ some
    (Logged-same v settings here _ _ _ _ _ _ _ _ same c.batches.invariant.goes_on.settings (c.run_batch.ensures.logs lines))

pub returns-clause-logs : goal.returns-clause-logs
returns-clause-logs g c = λ lines.
    let v = service_of c.args.engine.now (g.R.CommitRule.choice c.args.terms.now.rule.now) c.args.terms.now.settings.now.batch c.args.terms.now.settings.now.parts in
    let so_far = c.batches.invariant.ending lines in
    Logged-over v (settings_of c.args.store.now) c.args.terms.now.settings.now.trace _ _ _ _ _ _ so_far.0 so_far.1

pub returns-in_err-run_batch-clause-in_turn : goal.returns-in_err-run_batch-clause-in_turn
returns-in_err-run_batch-clause-in_turn g c =
    let p = err_from_is_err_and c.from_residual.result c.from_residual.ensures.1 in
    in_turn_passed c.args.terms.now.settings.now.trace c.from_residual.result _ _ _ (p.1 ∙ ap Err p.2) c.in_err-run_batch.ensures.in_turn

pub returns-clause-in_turn : goal.returns-clause-in_turn
returns-clause-in_turn g c = c.batches.invariant.ready.in_cycle
