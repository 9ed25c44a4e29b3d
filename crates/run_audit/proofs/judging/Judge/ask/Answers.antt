use Rattle.std.proofs.Common.{◌+◌, ◌*◌, sym, subst}
use Rattle.program_meaning.specs.Sources.{source_of}
use Rattle.run_audit.specs.declared.verdict.Verdict.TheVariants as verdict
use Rattle.run_audit.specs.Judging.{Decides}
use Rattle.run_audit.specs.Standings.{judged_by, shown_line}
use Rattle.run_audit.proofs.JudgeSteps.{new_where_asked, ask_decides, ask_passes}
use Rattle.run_audit.proofs.judging.Judge.ask.Goals as goal

pub returns-then-is_none-clause-judges : goal.returns-then-is_none-clause-judges
returns-then-is_none-clause-judges c =
    let src = source_of c.args.program.now in
    let line = shown_line c.args.ended c.args.line.now in
    subst (λ n. Decides src (judged_by c.args.self.now) line (verdict.BadRun (2 * n + 1))) (sym c.len.ensures.len)
    (ask_decides src (judged_by c.args.self.now) line c.in_ok-asked.asked c.is_none.result c.requires.none c.in_ok-asked.ensures c.is_none.ensures c.if-is_none.true)

pub returns-clause-judges : goal.returns-clause-judges
returns-clause-judges c =
    ask_passes (source_of c.args.program.now) (judged_by c.args.self.now) (shown_line c.args.ended c.args.line.now) c.in_ok-asked.asked c.is_none.result
    c.requires.none c.in_ok-asked.ensures c.is_none.ensures c.if-is_none.false

pub returns-clause-stands : goal.returns-clause-stands
returns-clause-stands c = record {
  few = c.requires.stands.few;
  new = new_where_asked (source_of c.args.program.now) c.args.self.now.ids.keys (shown_line c.args.ended c.args.line.now) c.in_ok-asked.asked c.in_ok-asked.ensures;
}
