use Rattle.std.proofs.Common.{take}
use Rattle.block_step.specs.CompiledViews.{compiled_tables}
use Rattle.aria_batch.specs.Vocabulary.{acts_of}
use Rattle.aria_batch.specs.BatchRun.{source_of}
use Rattle.ordered_runs.proofs.OneLaws.{HasRun}
use Rattle.ordered_runs.proofs.one_by_one.run_one_by_one.Given as goal

abbrev pub invariant-loop-request : goal.invariant-loop-request
invariant-loop-request l = HasRun (source_of l.compiled) (compiled_tables l.compiled) l.state.contents (acts_of (take l.request-index l.requests)) l.left.contents l.ordered
