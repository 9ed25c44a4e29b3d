-- One batch: what it is run on, what its requests come to by themselves, and what is told of its events.
use Rattle.std.specs.Prelude.{◌≡◌, ℕ, List, ◌++◌, map as over, length, Some, None, IfSome}
use Rattle.std.specs.declared.option.Option.{Option}
use Rattle.py_tree.specs.ClassRules.{PlainTable}
use Rattle.sf_value.specs.declared.Act.{Act}
use Rattle.sf_value.specs.declared.Outcome.{Outcome}
use Rattle.sf_value.specs.declared.Request.{Request}
use Rattle.sf_outside.specs.Choices.{Choices}
use Rattle.program_meaning.specs.ClassTables.{Source}
use Rattle.program_meaning.specs.World.{State}
use Rattle.serial_order.specs.ConflictFree.{runs_on}
use Rattle.block_code.specs.PlainBlocks.{PlainBlock}
use Rattle.quiet_methods.specs.MarksKeepWithin.{source}
use Rattle.block_step.specs.CompiledViews.{compiled_program, compiled_names, compiled_tables, compiled_blocks}
use Rattle.block_step.specs.declared.compiled.Compiled.{Compiled}
use Rattle.batch_events.specs.Vocabulary.{acts_of, Told, AlsoTold, batch_told, batch_running, batch_counts, Outside}

abbrev pub source_of : Compiled → Source
source_of compiled = source (compiled_names compiled) (compiled_program compiled)

-- the outcomes that requests have by themselves, all from one state
abbrev pub own_outcomes : Source → State → List Act → List Outcome
own_outcomes src snapshot asked = over (λ ran. ran.outcome) (runs_on src snapshot asked)

-- a program and its graph, with requests on a snapshot
pub record Batch : Type 0 where
  pub src : Source
  pub tables : List PlainTable
  pub graph : List (List PlainBlock)
  pub snapshot : State
  pub asked : List Act

abbrev pub batch_of : Compiled → State → List Request → Batch
batch_of compiled snapshot requests = record {
  src = source_of compiled;
  tables = compiled_tables compiled;
  graph = compiled_blocks compiled;
  snapshot = snapshot;
  asked = acts_of requests;
}

-- What is told

-- these picks were made besides, one after another, each asked for of so many; who tells nothing any more never tells anything again
abbrev pub AlsoPicked : Option Choices → Option Choices → List ℕ → List ℕ → Type 0
AlsoPicked old None counts more = Unit {0}
AlsoPicked None (Some new) counts more = ⊥
AlsoPicked (Some old) (Some new) counts more = new ≡ record { starts = old.starts; number = old.number; asked = old.asked ++ counts; picks = old.picks ++ more }

module _ (b : Batch) (parts : ℕ) where
  abbrev pub told_along : List ℕ → List Told
  told_along picks = batch_told b.src b.tables b.graph b.snapshot b.asked parts picks

  abbrev pub running_along : List ℕ → ℕ
  running_along picks = batch_running b.src b.tables b.graph b.snapshot b.asked parts picks

  abbrev pub counts_along : List ℕ → List ℕ
  counts_along picks = batch_counts b.src b.tables b.graph b.snapshot b.asked parts picks

  -- along some picks, each asked for of as many as aren't over then: they are told besides, and so are the events along them, one for each pick. Where events were counted the batch was run to its
  -- end, and they are as many as were told
  pub record IsToldAlong (counted : Option ℕ) (old new : Outside) : Type 0 where
    pub picks : List ℕ
    pub picked : AlsoPicked old.choices new.choices (counts_along picks) picks
    pub told_of_them : AlsoTold old.told new.told (told_along picks)
    pub one_each : length picks ≡ length (told_along picks)
    pub ended : IfSome counted (λ n. running_along picks ≡ 0)
    pub counted_all : IfSome counted (λ n. n ≡ length (told_along picks))
