-- The outcomes that the events of a batch end with, and those of what it commits.
use Rattle.std.specs.Prelude.{◌≡◌, ℕ, List, map as over, option_map, filter_map, Some}
use Rattle.std.specs.List.{slice_get}
use Rattle.std.specs.declared.option.Option.{Option}
use Rattle.sf_value.specs.declared.Entry.{Entry}
use Rattle.sf_value.specs.declared.Outcome.{Outcome}
use Rattle.program_meaning.specs.RequestRun.{Ran}
use Rattle.block_step.specs.declared.compiled.Compiled.{Compiled}
use Rattle.block_step.specs.CompiledViews.{compiled_tables, compiled_blocks}
use Rattle.operator_graph.specs.BatchEvents.{batch_after}
use Rattle.operator_graph.specs.FirstFlights.{acts_of}
use Rattle.batch_events.specs.BatchRuns.{come_to}
use Rattle.aria_batch.specs.BatchRun.{source_of, batch_of, running_along}
use Rattle.engine.specs.Cores.{Core}
use Rattle.engine.specs.Batches.{batch_entries}

module _ (compiled : Compiled) (parts : ℕ) (core : Core) where
  -- behind these picks: the outcome that the events of each request that waits have ended with, where they have
  abbrev pub ended_with : List ℕ → List (Option Outcome)
  ended_with picks =
      over (λ t. option_map (λ (ran : Ran). ran.outcome) (come_to core.state t))
      (batch_after (source_of compiled) (compiled_tables compiled) (compiled_blocks compiled) core.state (acts_of core.pending) parts picks)

  -- whatever was picked: where the events of all have ended, what the batch commits of them has the outcomes that these ended with
  pub record CommitsWhatEnded : Type 0 where
    pub each : (picks committed : List ℕ) → running_along (batch_of compiled core.state core.pending) parts picks ≡ 0
        → filter_map (slice_get (ended_with picks)) committed ≡ over (λ (e : Entry). Some e.outcome) (batch_entries (source_of compiled) core committed)
