use Rattle.std.proofs.Common.{refl}
use Rattle.py_tree.specs.CheckedViews.{checked_program, checked_names}
use Rattle.program_meaning.specs.Sources.{source_of}
use Rattle.stateflow_cli.specs.AuditEnds.{TurnsDown, Concludes, ConcludesInPart, ComesToNothing}
use Rattle.stateflow_cli.specs.Endings.{longest_input}
use Rattle.stateflow_cli.proofs.AuditEndings.{verdict_then, none_then}
use Rattle.stateflow_cli.proofs.auditing.audit_file.Goals as goal

pub returns-in-Err-Refused : goal.returns-in-Err-Refused
returns-in-Err-Refused g c = rw c.in-Err-Refused.field-0-is (λ input err outside disk. record {
  input = refl;
  err = refl;
  outside = refl;
  ways = TurnsDown c.in-Err-Refused.fault refl (rw c.in-Err-Refused.field-0-is at c.in-Err-Refused.ensures.gives) refl;
})

pub returns-in-Err-InputTooLong : goal.returns-in-Err-InputTooLong
returns-in-Err-InputTooLong g c = λ input err outside disk. record {
  input = refl;
  err = refl;
  outside = refl;
  ways = ComesToNothing
      (record { program = checked_program c.in-Ok.program; names = checked_names c.in-Ok.program; holds = c.in-Ok.ensures.gives }) refl
      (none_then longest_input (source_of c.in-Ok.program) _ _ (c.in-Ok.ensures.stays.content c.args.run.now)
      (rw c.in-Err-InputTooLong.field-0-is at c.in-Err-InputTooLong.ensures.audits)) refl;
}

pub returns-in-Ok-print_verdict : goal.returns-in-Ok-print_verdict
returns-in-Ok-print_verdict g c = λ input err outside disk. record {
  input = refl;
  err = refl;
  outside = refl;
  ways = Concludes
      (record { program = checked_program c.in-Ok.program; names = checked_names c.in-Ok.program; holds = c.in-Ok.ensures.gives })
      c.in-Ok-audit.verdict c.ending_of.ensures
      (verdict_then longest_input (source_of c.in-Ok.program) _ _ c.in-Ok-audit.verdict (c.in-Ok.ensures.stays.content c.args.run.now) c.in-Ok-audit.ensures.audits)
      c.in-Ok-print_verdict.ensures.whole;
}

pub returns : goal.returns
returns g c = λ input err outside disk. record {
  input = refl;
  err = refl;
  outside = refl;
  ways = ConcludesInPart
      (record { program = checked_program c.in-Ok.program; names = checked_names c.in-Ok.program; holds = c.in-Ok.ensures.gives })
      c.in-Ok-audit.verdict refl
      (verdict_then longest_input (source_of c.in-Ok.program) _ _ c.in-Ok-audit.verdict (c.in-Ok.ensures.stays.content c.args.run.now) c.in-Ok-audit.ensures.audits)
      c.in-Err.ensures.part c.in-Err.ensures.cause.failed;
}
