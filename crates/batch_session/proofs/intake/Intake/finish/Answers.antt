use Rattle.std.proofs.Common.{◌∙◌, ap, refl, Err}
use Rattle.std.proofs.lemmas.Result.{err_from_is_err_and}
use Rattle.request_json.specs.Actions.{last_line}
use Rattle.engine.specs.EngineViews.{core_of}
use Rattle.session_store.specs.Stores.{settings_of}
use Rattle.session_steps.specs.Vocabulary.{service_of}
use Rattle.session_steps.proofs.Vocabulary.{same_service, then_goes}
use Rattle.session_steps.specs.Steps.{answers, endings, standing_after, open_at}
use Rattle.session_steps.proofs.LoggedSteps.{Logged-more, Logged-last}
use Rattle.batch_session.proofs.LoggedLaws.{Logged-same}
use Rattle.session_steps.proofs.Composing.{Comes-passed, Comes-same}
use Rattle.session_steps.proofs.Endings.{Last-stop, Last-then}
use Rattle.batch_session.proofs.StateLaws.{passed_on, then_writes, passed_writes}
use Rattle.batch_session.proofs.TurnLaws.{in_turn_passed}
use Rattle.batch_session.proofs.intake.Intake.finish.Goals as goal

pub returns-in_err-answer_last-clause-finishes : goal.returns-in_err-answer_last-clause-finishes
returns-in_err-answer_last-clause-finishes g c = λ part h.
    let p = err_from_is_err_and c.from_residual.result c.from_residual.ensures.1 in
    let v = service_of c.args.engine.now (g.R.CommitRule.choice c.args.terms.now.rule.now) c.args.terms.now.settings.now.batch c.args.terms.now.settings.now.parts in
    let traces = c.args.terms.now.settings.now.trace in
    Comes-passed v traces (Unit {0}) _ _ _ _ _ (p.1 ∙ ap Err p.2) (Last-stop v traces {T = Unit {0}} (Err _) (last_line part) _ _ refl (c.in_err-answer_last.ensures.answers part h))

pub returns-clause-finishes : goal.returns-clause-finishes
returns-clause-finishes g c = λ part h.
    let rule = g.R.CommitRule.choice c.args.terms.now.rule.now in
    let v = service_of c.args.engine.now rule c.args.terms.now.settings.now.batch c.args.terms.now.settings.now.parts in
    let here = service_of c.answer_last.new.engine rule c.args.terms.now.settings.now.batch c.args.terms.now.settings.now.parts in
    let traces = c.args.terms.now.settings.now.trace in
    let same = same_service c.args.engine.now c.answer_last.new.engine c.answer_last.ensures.goes_on.runs rule c.args.terms.now.settings.now.batch c.args.terms.now.settings.now.parts in
    Last-then v traces _ (last_line part) _ _ _ (c.in_ok-answer_last.ensures.answers part h) (Comes-same v here traces _ _ _ _ same (c.run_waiting.ensures.runs_waiting c.answer_last.new.self.lines))

pub returns-in_err-answer_last-clause-goes_on : goal.returns-in_err-answer_last-clause-goes_on
returns-in_err-answer_last-clause-goes_on g c =
    let p = err_from_is_err_and c.from_residual.result c.from_residual.ensures.1 in
    passed_on (g.R.CommitRule.choice c.args.terms.now.rule.now) c.from_residual.result _ _ _ (p.1 ∙ ap Err p.2) c.in_err-answer_last.ensures.goes_on

pub returns-in_err-answer_last-clause-writes : goal.returns-in_err-answer_last-clause-writes
returns-in_err-answer_last-clause-writes g c =
    let p = err_from_is_err_and c.from_residual.result c.from_residual.ensures.1 in
    passed_writes c.from_residual.result _ _ _ _ _ (p.1 ∙ ap Err p.2) c.in_err-answer_last.ensures.writes

pub returns-clause-goes_on : goal.returns-clause-goes_on
returns-clause-goes_on g c = then_goes (g.R.CommitRule.choice c.args.terms.now.rule.now) _ _ _ _ c.in_ok-answer_last.ensures.goes_on c.run_waiting.ensures.goes_on

pub returns-clause-writes : goal.returns-clause-writes
returns-clause-writes g c = then_writes _ _ _ _ _ _ _ c.in_ok-answer_last.ensures.writes c.run_waiting.ensures.writes

pub returns-in_err-answer_last-clause-logs : goal.returns-in_err-answer_last-clause-logs
returns-in_err-answer_last-clause-logs g c = λ part h.
    let e = c.args.engine.now in
    let lines = c.args.self.now.lines in
    let v = service_of e (g.R.CommitRule.choice c.args.terms.now.rule.now) c.args.terms.now.settings.now.batch c.args.terms.now.settings.now.parts in
    Logged-more v (settings_of c.args.store.now) (answers (last_line part)) (endings (standing_after v (open_at (core_of e) lines) (answers (last_line part)))) (core_of e) lines _ _ _ _
    (c.answer_last.ensures.logs part h)

pub returns-clause-logs : goal.returns-clause-logs
returns-clause-logs g c = λ part h.
    let rule = g.R.CommitRule.choice c.args.terms.now.rule.now in
    let settings = settings_of c.args.store.now in
    let v = service_of c.args.engine.now rule c.args.terms.now.settings.now.batch c.args.terms.now.settings.now.parts in
    let here = service_of c.answer_last.new.engine rule c.args.terms.now.settings.now.batch c.args.terms.now.settings.now.parts in
    let same = same_service c.args.engine.now c.answer_last.new.engine c.answer_last.ensures.goes_on.runs rule c.args.terms.now.settings.now.batch c.args.terms.now.settings.now.parts in
    Logged-last v settings c.args.terms.now.settings.now.trace (last_line part) _ _ _ _ _ _ _ _ (c.in_ok-answer_last.ensures.answers part h) (c.answer_last.ensures.logs part h)
    (Logged-same v settings here _ _ _ _ _ _ _ _ same c.answer_last.ensures.goes_on.settings (c.run_waiting.ensures.logs c.answer_last.new.self.lines))

pub returns-in_err-answer_last-clause-in_turn : goal.returns-in_err-answer_last-clause-in_turn
returns-in_err-answer_last-clause-in_turn g c =
    let p = err_from_is_err_and c.from_residual.result c.from_residual.ensures.1 in
    in_turn_passed c.args.terms.now.settings.now.trace c.from_residual.result _ _ _ (p.1 ∙ ap Err p.2) c.in_err-answer_last.ensures.in_turn

pub returns-clause-in_turn : goal.returns-clause-in_turn
returns-clause-in_turn g c = c.run_waiting.ensures.in_turn
