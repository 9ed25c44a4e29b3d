use Rattle.std.proofs.Common.{◌≡◌, IfOk, sym, subst}
use Rattle.engine.specs.EngineViews.{core_of, source_of}
use Rattle.batch_replies.specs.Vocabulary.{is_due}
use Rattle.line_answers.specs.LineViews.{asked}
use Rattle.line_answers.specs.Services.{limits_of}
use Rattle.line_answers.proofs.TakingLaws.{Takes-itself}
use Rattle.line_answers.proofs.taking.take_action.Goals as goal

pub returns-in-Ask-clause-due : goal.returns-in-Ask-clause-due
returns-in-Ask-clause-due c = λ rule history.
    subst (λ action. IfOk c.ask.result (λ t. t.is_due ≡ is_due (source_of c.args.engine.now) rule (limits_of c.args.batch history) (core_of c.args.engine.now) (asked action))) (sym c.in-Ask.is)
    (c.ask.ensures.due rule history)

pub returns-in_err-write_bad-in-Refuse-clause-takes : goal.returns-in_err-write_bad-in-Refuse-clause-takes
returns-in_err-write_bad-in-Refuse-clause-takes c = Takes-itself c.args.engine.now

pub returns-in-Skip-clause-takes : goal.returns-in-Skip-clause-takes
returns-in-Skip-clause-takes c = Takes-itself c.args.engine.now

pub returns-in_ok-write_bad-in-Refuse-clause-takes : goal.returns-in_ok-write_bad-in-Refuse-clause-takes
returns-in_ok-write_bad-in-Refuse-clause-takes c = Takes-itself c.args.engine.now
