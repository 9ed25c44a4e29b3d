use Rattle.sf_outside.proofs.DiskStateLaws.{on_err}
use Rattle.stateflow_cli.proofs.GainedLaws.{prefix_kept}
use Rattle.stateflow_cli.proofs.auditing.print_verdict.Goals as goal

pub returns-clause-part : goal.returns-clause-part
returns-clause-part g c = on_err c.flush.result _ (prefix_kept _ _ _ _ c.in_ok-write_verdict.ensures.whole c.flush.ensures.kept)
