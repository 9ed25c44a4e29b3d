use Rattle.std.proofs.Common.{arith}
use Rattle.line_driver.proofs.driver.Driver.run_batch.Goals as goal

pub plan-requires-clause-parts : goal.plan-requires-clause-parts
plan-requires-clause-parts g c = record { some = omega arith; few = omega arith }
