use Rattle.std.proofs.Common.{◌∙◌, ◌≤◌, ◌<◌, ap, sym, subst, Some, length}
use Rattle.run_audit.specs.declared.verdict.Verdict.TheVariants as verdict
use Rattle.run_audit.specs.Standings.{judged_by}
use Rattle.run_audit.proofs.JudgeSteps.{short_part, long_part}
use Rattle.run_audit.proofs.judging.Judge.cut.Goals as goal

pub returns-then-part-most : goal.returns-then-part-most
returns-then-part-most c = λ src. short_part src (judged_by c.args.self.now) c.args.part.now (subst (λ n. length c.args.part.now ≤ n) c.most.ensures c.if-part-most.true)

pub returns : goal.returns
returns c = λ src.
    long_part src (judged_by c.args.self.now) c.args.part.now (subst (λ n. n < length c.args.part.now) c.most.ensures c.if-part-most.false)
    ∙ ap (λ n. Some (verdict.BadRun n)) (sym c.next_number.ensures)
