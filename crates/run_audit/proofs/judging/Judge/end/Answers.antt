use Rattle.std.proofs.Common.{◌∙◌, ap, sym}
use Rattle.run_audit.specs.declared.verdict.Verdict.TheVariants as verdict
use Rattle.run_audit.specs.Standings.{judged_by}
use Rattle.run_audit.proofs.JudgeSteps.{ends_missing, ends_serial}
use Rattle.run_audit.proofs.judging.Judge.end.Goals as goal

pub returns-then-is_some : goal.returns-then-is_some
returns-then-is_some c = λ src. ends_missing src (judged_by c.args.self.now) (sym c.is_some.ensures ∙ c.if-is_some.true) ∙ ap verdict.BadRun (sym c.next_number.ensures)

pub returns : goal.returns
returns c = λ src. ends_serial src (judged_by c.args.self.now) (sym c.is_some.ensures ∙ c.if-is_some.false) ∙ ap verdict.Serial (sym c.len.ensures.len)
