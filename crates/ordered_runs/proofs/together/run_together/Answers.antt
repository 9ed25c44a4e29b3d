use Rattle.std.proofs.Common.{arith}
use Rattle.aria_batch.specs.Vocabulary.{acts_of}
use Rattle.aria_batch.specs.BatchRun.{source_of}
use Rattle.ordered_runs.proofs.TogetherLaws.{ran_together}
use Rattle.ordered_runs.proofs.together.run_together.Goals as goal

pub run_batch-requires-clause-parts : goal.run_batch-requires-clause-parts
run_batch-requires-clause-parts c = record { some = omega arith; few = omega arith }

pub returns : goal.returns
returns c = ran_together (source_of c.args.compiled.now) c.args.state.now.contents (acts_of c.args.requests.now) c.run_batch.result c.run_batch.ensures.outcomes c.run_batch.ensures.works c.run_batch.ensures.committed c.run_batch.ensures.carried c.run_batch.ensures.serial
