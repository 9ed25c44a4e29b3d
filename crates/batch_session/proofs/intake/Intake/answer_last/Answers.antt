use Rattle.std.proofs.Common.{◌≡◌, ◌∙◌, refl, sym, ap, arith, length}
use Rattle.std.proofs.lemmas.List.{nil_from_length}
use Rattle.std.proofs.lemmas.Bool.Decides.{nat_tests}
use Rattle.engine.specs.EngineViews.{core_of, source_of}
use Rattle.session_store.specs.Stores.{settings_of}
use Rattle.session_store.specs.Vocabulary.{logged_of}
use Rattle.session_steps.specs.Vocabulary.{service_of}
use Rattle.session_steps.proofs.Vocabulary.{Logs-still, stays}
use Rattle.batch_session.proofs.LastLaws.{last-none, last-line, Logged-left}
use Rattle.batch_session.proofs.StateLaws.{unwritten}
use Rattle.batch_session.proofs.intake.Intake.answer_last.Goals as goal

pub returns-then-is_empty-clause-answers : goal.returns-then-is_empty-clause-answers
returns-then-is_empty-clause-answers g c = λ part start.
    let v = service_of c.args.engine.now (g.R.CommitRule.choice c.args.terms.now.rule.now) c.args.terms.now.settings.now.batch c.args.terms.now.settings.now.parts in
    let short : length c.line.result.now ≡ 0 = grind (arith, nat_tests) in
    last-none v c.args.terms.now.settings.now.trace (tt {0}) c.args.self.now.reader.line part _ start (sym c.line.ensures ∙ nil_from_length c.line.result.now short)

pub returns-clause-answers : goal.returns-clause-answers
returns-clause-answers g c = λ part start.
    let v = service_of c.args.engine.now (g.R.CommitRule.choice c.args.terms.now.rule.now) c.args.terms.now.settings.now.batch c.args.terms.now.settings.now.parts in
    let reader = c.args.self.now.reader in
    last-line v c.args.terms.now.settings.now.trace _ reader.ended reader.line part _ _ c.requires.left start
    (λ none. let short : length c.line.result.now ≡ 0 = ap length (c.line.ensures ∙ none) in grind (arith, nat_tests)) c.answer.ensures.answers

pub returns-then-is_empty-clause-logs : goal.returns-then-is_empty-clause-logs
returns-then-is_empty-clause-logs g c = λ part h.
    let e = c.args.engine.now in
    Logs-still (source_of e) (g.R.CommitRule.choice c.args.terms.now.rule.now) c.args.store.now _ (logged_of e) (logged_of e) (g.D.Disk.facts c.args.disk.now) refl c.requires.ready.can_go_on.kept

pub returns-clause-logs : goal.returns-clause-logs
returns-clause-logs g c = λ part start.
    let e = c.args.engine.now in
    let v = service_of e (g.R.CommitRule.choice c.args.terms.now.rule.now) c.args.terms.now.settings.now.batch c.args.terms.now.settings.now.parts in
    let reader = c.args.self.now.reader in
    Logged-left v (settings_of c.args.store.now) (core_of e) c.args.self.now.lines reader.ended reader.line part _ _ _ _ c.requires.left start
    (λ none. let short : length c.line.result.now ≡ 0 = ap length (c.line.ensures ∙ none) in grind (arith, nat_tests)) c.answer.ensures.logs

pub returns-then-is_empty-clause-goes_on : goal.returns-then-is_empty-clause-goes_on
returns-then-is_empty-clause-goes_on g c = stays (g.R.CommitRule.choice c.args.terms.now.rule.now) _ c.requires.ready.can_go_on

pub returns-then-is_empty-clause-writes : goal.returns-then-is_empty-clause-writes
returns-then-is_empty-clause-writes g c = unwritten _ _

pub returns-then-is_empty-clause-in_turn : goal.returns-then-is_empty-clause-in_turn
returns-then-is_empty-clause-in_turn g c = c.requires.ready.in_cycle

pub returns-clause-in_turn : goal.returns-clause-in_turn
returns-clause-in_turn g c = c.answer.ensures.in_turn
