use Rattle.std.proofs.Common.{◌≡◌, ◌∙◌, true, Ok, Some, None, arith, subst, sym, refl}
use Rattle.std.specs.declared.alloc.AllocError.{AllocError}
use Rattle.std.specs.Option.{IfSome}
use Rattle.program_meaning.specs.Sources.{source_of}
use Rattle.request_json.specs.Actions.{last_line}
use Rattle.input_lines.specs.declared.lines.Next.TheVariants.{Line, End, TooLong}
use Rattle.input_lines.proofs.GivenLaws.{line_shortens}
use Rattle.run_audit.specs.Audits.{Audits}
use Rattle.run_audit.specs.Judging.{Judges, most_of, told_behind, ending_of}
use Rattle.run_audit.specs.Fronts.{if_too_long}
use Rattle.run_audit.specs.Verdict.{Front}
use Rattle.run_audit.specs.Standings.{judged_by, shown_line}
use Rattle.run_audit.proofs.AuditLaws.{Audited-new, Stands-new, Audited-line, Audits-early, Audits-end, Audits-past, later_still, gives_so}
use Rattle.run_audit.proofs.auditing.audit.Goals as goal

pub lines-init : goal.lines-init
lines-init g c = record {
  audited = Audited-new (source_of c.args.program.now) c.args.limit (g.F.Files.content c.args.files.now c.args.name.now) c.new-lines.result (judged_by c.new-judge.result)
      c.new-lines.ensures c.new-judge.ensures;
  stands = Stands-new c.new-judge.result c.new-judge.ensures;
  room = omega (arith, c.new-lines.ensures.room);
  kept = λ q. refl;
  later = λ q. omega arith;
}

pub lines-smaller : goal.lines-smaller
lines-smaller g c = omega (arith, line_shortens (rw c.in-Ok-Line.field-0-is at c.in-Ok-Line.ensures.gives))

pub lines-preserved : goal.lines-preserved
lines-preserved g c =
    let src = source_of c.args.program.now in
    let limit = c.args.limit in
    let content = g.F.Files.content c.args.files.now c.args.name.now in
    let old = c.lines.lines in
    let new = c.next_of_file.new.self in
    let line = gives_so AllocError limit _ content old new _ Line (c.lines.invariant.kept c.args.name.now) c.in-Ok-Line.field-0-is c.in-Ok-Line.ensures.gives in
    record {
      audited = Audited-line src limit content old new (judged_by c.lines.judge) c.lines.invariant.audited line
          (judged_by c.judge.new.self) AllocError
          (subst (λ bytes. Judges src (judged_by c.lines.judge) (judged_by c.judge.new.self) (shown_line true bytes) {E = AllocError} (Ok None)) c.line.ensures
          (rw c.in-Ok-None.field-0-is at c.in-Ok-None.ensures.judges));
      stands = c.in-Ok-None.ensures.stands;
      room = omega (arith, c.lines.invariant.room, c.in-Ok-Line.ensures.room);
      kept = λ q. c.in-Ok-Line.ensures.kept q ∙ c.lines.invariant.kept q;
      later = λ q. later_still _ _ _ (c.lines.invariant.later q) (c.in-Ok-Line.ensures.later q);
    }

pub returns-in-Ok-Some-clause-audits : goal.returns-in-Ok-Some-clause-audits
returns-in-Ok-Some-clause-audits g c =
    let src = source_of c.args.program.now in
    let limit = c.args.limit in
    let content = g.F.Files.content c.args.files.now c.args.name.now in
    let old = c.lines.lines in
    let new = c.next_of_file.new.self in
    let line = gives_so AllocError limit _ content old new _ Line (c.lines.invariant.kept c.args.name.now) c.in-Ok-Line.field-0-is c.in-Ok-Line.ensures.gives in
    Audits-early src limit content old new (judged_by c.lines.judge) c.lines.invariant.audited line
    (judged_by c.judge.new.self) AllocError c.in-Ok-Some.verdict
    (subst (λ bytes. Judges src (judged_by c.lines.judge) (judged_by c.judge.new.self) (shown_line true bytes) {E = AllocError} (Ok (Some c.in-Ok-Some.verdict))) c.line.ensures
    (rw c.in-Ok-Some.field-0-is at c.in-Ok-Some.ensures.judges))

pub returns-in-Ok-End-clause-audits : goal.returns-in-Ok-End-clause-audits
returns-in-Ok-End-clause-audits g c =
    let src = source_of c.args.program.now in
    let limit = c.args.limit in
    let content = g.F.Files.content c.args.files.now c.args.name.now in
    let old = c.lines.lines in
    let new = c.next_of_file.new.self in
    let joined = gives_so AllocError limit _ content old new _ End (c.lines.invariant.kept c.args.name.now) c.in-Ok-End.field-0-is c.in-Ok-End.ensures.gives in
    Audits-end src limit content old new (judged_by c.lines.judge) c.lines.invariant.audited
    c.in_ok-at_end-in-Ok-End.field-0 joined
    (subst (λ bytes. ending_of src (judged_by c.lines.judge) (last_line bytes) ≡ c.in_ok-at_end-in-Ok-End.field-0) c.line-in-Ok-End.ensures c.in_ok-at_end-in-Ok-End.ensures)

pub returns-in-Ok-TooLong-clause-audits : goal.returns-in-Ok-TooLong-clause-audits
returns-in-Ok-TooLong-clause-audits g c =
    let src = source_of c.args.program.now in
    let limit = c.args.limit in
    let content = g.F.Files.content c.args.files.now c.args.name.now in
    let old = c.lines.lines in
    let new = c.next_of_file.new.self in
    let past = gives_so AllocError limit _ content old new _ TooLong (c.lines.invariant.kept c.args.name.now) c.in-Ok-TooLong.field-0-is c.in-Ok-TooLong.ensures.gives in
    subst (λ r. IfSome content (λ all. Audits src limit all r)) (sym c.ok_or.ensures.value)
    (Audits-past src limit content old new (judged_by c.lines.judge) c.lines.invariant.audited c.cut.result past
    (subst (λ bytes. told_behind src Front (judged_by c.lines.judge) (if_too_long (most_of c.lines.judge.asked) bytes) ≡ c.cut.result) c.line-in-Ok-TooLong.ensures (c.cut.ensures src)))
