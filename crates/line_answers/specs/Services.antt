-- What a session in batches serves.
use Rattle.std.specs.Prelude.{ℕ, ◌≤◌, List}
use Rattle.program_meaning.specs.ClassTables.{Source}
use Rattle.serial_order.specs.ConflictFree.{Access}
use Rattle.reservations.specs.CommitRules.{Chosen}
use Rattle.block_step.specs.declared.compiled.Compiled.{Compiled}
use Rattle.aria_batch.specs.BatchRun.{source_of}
use Rattle.engine.specs.declared.engine.Engine.{Engine}
use Rattle.engine.specs.EngineViews.{compiled_of, limit_of}
use Rattle.batch_replies.specs.Vocabulary.{Limits}
use Rattle.operator_graph.specs.Partitions.{IsParts}
use Rattle.line_answers.specs.declared.settings.Settings.{Settings}

-- a compiled program on so many partitions, with a rule on commits and limits
pub record Service : Type 0 where
  pub compiled : Compiled
  pub parts : ℕ
  pub rule : List Access → Chosen
  pub limits : Limits

abbrev pub program_of : Service → Source
program_of v = source_of v.compiled

abbrev pub limits_of : ℕ → ℕ → Limits
limits_of batch history = record { batch = batch; history = history }

-- what an engine serves
abbrev pub service_of : Engine → (List Access → Chosen) → ℕ → ℕ → Service
service_of engine rule batch parts =
    record { compiled = compiled_of engine; parts = parts; rule = rule; limits = limits_of batch (limit_of engine) }

-- by these settings
abbrev pub service_by : Engine → (List Access → Chosen) → Settings → Service
service_by engine rule s = service_of engine rule s.batch s.parts

-- a batch has at most 256 requests, and there are as many partitions as there may be
pub record IsInRange (s : Settings) : Type 0 where
  pub batch : s.batch ≤ 256
  pub parts : IsParts s.parts
