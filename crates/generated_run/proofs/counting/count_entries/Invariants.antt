use Rattle.std.proofs.Common.{◌≡◌, ◌≤◌, length, take}
use Rattle.program_meaning.specs.Serial.{outcomes_of}
use Rattle.batch_session.specs.Vocabulary.{failure_count}
use Rattle.engine.specs.EngineViews.{core_of}
use Rattle.generated_run.proofs.counting.count_entries.Given as goal

-- the first entries were counted
abbrev pub invariant-loop-before : goal.invariant-loop-before
invariant-loop-before l = record {
  within : l.before ≤ length (core_of l.engine).history;
  failed : l.failed ≡ failure_count (outcomes_of (take l.before (core_of l.engine).history));
  most : l.failed ≤ l.before;
}
