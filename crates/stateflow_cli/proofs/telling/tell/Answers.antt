use Rattle.std.proofs.Common.{arith}
use Rattle.std.proofs.lemmas.Bool.Decides.{nat_tests}
use Rattle.stateflow_cli.proofs.GainedLaws.{Told-once, Told-twice}
use Rattle.stateflow_cli.proofs.telling.tell.Goals as goal

pub returns-then-status-ne-WRITE_FAULT-clause-told : goal.returns-then-status-ne-WRITE_FAULT-clause-told
returns-then-status-ne-WRITE_FAULT-clause-told g c = Told-twice c.write.result _ _ _ _ _ _ _ _ (let t = c.if-status-ne-WRITE_FAULT.true in grind (arith, nat_tests, t, c.status-status.ensures)) c.in-Err.ensures.part c.in-Err.ensures.cause.failed c.write.ensures.whole c.write.ensures.part c.write.ensures.cause

pub returns-else-status-ne-WRITE_FAULT-clause-told : goal.returns-else-status-ne-WRITE_FAULT-clause-told
returns-else-status-ne-WRITE_FAULT-clause-told g c = Told-once _ _ _ _ _ _ (let f = c.if-status-ne-WRITE_FAULT.false in grind (arith, nat_tests, f, c.status-status.ensures)) c.in-Err.ensures.part c.in-Err.ensures.cause.failed
