-- What a run chooses and tells: its start, and then its batches, one after another; what it traces of them; and the core that it ends with.
use Rattle.std.specs.Prelude.{◌≡◌, ℕ, ◌+◌, ◌-◌, ◌^◌, ◌<◌, ◌⊎◌, List, [], ◌∷◌, length, ⊤, Ok, Err}
use Rattle.std.specs.List.{AllByRecursion}
use Rattle.std.specs.declared.option.Option.{Option}
use Rattle.std.specs.declared.result.Result.{Result}
use Rattle.std.specs.Io.KnownBytes.{Appends}
use Rattle.sf_outside.specs.Bytes.{AppendsPrefix}
use Rattle.sf_outside.specs.Choices.{Begins}
use Rattle.block_step.specs.declared.compiled.Compiled.{Compiled}
use Rattle.block_step.specs.CompiledViews.{compiled_tables, compiled_blocks}
use Rattle.operator_graph.specs.Telling.{GraphTold, AlsoTold}
use Rattle.operator_graph.specs.Turns.{Outside}
use Rattle.engine.specs.Cores.{Core}
use Rattle.batch_output.specs.BatchOutput.{begun}
use Rattle.batch_session.specs.Vocabulary.{Tally, Step, EndsAmong, LacksALine, ran_on, no_batch, tally_after, trace_text, RunBatches, BeginBatches, BatchCounts, FlushesBatches}
use Rattle.batch_session.specs.declared.serving.SessionFault.{SessionFault}
use Rattle.batch_session.specs.declared.serving.SessionFault.TheVariants.{ReadFault, WriteFault, DiskFault, InputTooLong, HistoryFull, NoMemory}
use Rattle.batch_run.specs.RunViews.{Shown, run_service}
use Rattle.batch_run.specs.BatchOutcomes.{CommitsWhatEnded}
use Rattle.batch_run.specs.declared.running.RunSettings.{RunSettings}

-- so many batches were told of as many as were committed; where something couldn't be written perhaps one less
abbrev pub AreTold : Result Tally SessionFault → ℕ → ℕ → Type 0
AreTold (Ok tally) told ran = told ≡ ran
AreTold (Err ReadFault) told ran = told ≡ ran
AreTold (Err InputTooLong) told ran = told ≡ ran
AreTold (Err HistoryFull) told ran = told ≡ ran
AreTold (Err NoMemory) told ran = told ≡ ran
AreTold (Err DiskFault) told ran = told ≡ ran
AreTold (Err WriteFault) told ran = (told ≡ ran) ⊎ (told + 1 ≡ ran)

module _ (compiled : Compiled) (s : RunSettings) where
  -- the chooser was started with the number of the schedule, and the watch was told the graph
  pub record Starts (old new : Outside) : Type 0 where
    pub begins : Begins old.choices s.schedule new.choices
    pub told : AlsoTold old.told new.told (GraphTold (compiled_tables compiled) (compiled_blocks compiled) ∷ [])

  -- the cores that the batches of steps run on, from the core that a run begins with
  abbrev pub batches_of : Core → List Step → List Core
  batches_of start steps = ran_on (run_service compiled s) (begun start) steps

  -- these batches were run and told; where it stopped in their midst, the first of them, and perhaps some events of the next
  abbrev pub TellsBatches : Result Tally SessionFault → List Core → List BatchCounts → Outside → Outside → Type 0
  TellsBatches (Ok tally) cores counts old new = RunBatches (run_service compiled s) cores counts old new
  TellsBatches (Err ReadFault) cores counts old new = RunBatches (run_service compiled s) cores counts old new
  TellsBatches (Err InputTooLong) cores counts old new = RunBatches (run_service compiled s) cores counts old new
  TellsBatches (Err HistoryFull) cores counts old new = RunBatches (run_service compiled s) cores counts old new
  TellsBatches (Err NoMemory) cores counts old new = BeginBatches (run_service compiled s) cores counts old new
  TellsBatches (Err DiskFault) cores counts old new = BeginBatches (run_service compiled s) cores counts old new
  TellsBatches (Err WriteFault) cores counts old new = BeginBatches (run_service compiled s) cores counts old new

  -- the lines of these batches were traced, where that is asked for; where something couldn't be written, a part of them
  abbrev pub TracesBatches : Result Tally SessionFault → List BatchCounts → Option (List ℕ) → Option (List ℕ) → Type 0
  TracesBatches (Err WriteFault) counts said said' = AppendsPrefix said said' (trace_text s.trace no_batch counts)
  TracesBatches result counts said said' = Appends said said' (trace_text s.trace no_batch counts)

  -- where all was served the tally is that of these batches
  abbrev pub CountsBatches : Result Tally SessionFault → List BatchCounts → Type 0
  CountsBatches (Ok tally) counts = tally ≡ tally_after no_batch counts
  CountsBatches (Err fault) counts = ⊤

  -- It started, and then the batches of these steps were told, along the picks made, traced, counted and flushed, each of which commits what its events ended with;
  -- and it ended behind the first of the steps, of which the batches were told,
  -- fewer than a count can hold; and of their lines the trace lacks one at most.
  pub record TellsRun (start last : Core) (steps : List Step) (result : Result Tally SessionFault) (old new : Shown) : Type 0 where
    pub started : Outside
    pub starts : Starts old.outside started
    pub counts : List BatchCounts
    pub few : length counts < 2 ^ 64 - 1
    pub told : TellsBatches result (batches_of start steps) counts started new.outside
    pub traced : TracesBatches result counts old.said new.said
    pub counted : CountsBatches result counts
    pub flushes : FlushesBatches (run_service compiled s) steps (begun start) (length counts) old.held old.handed new.handed
    pub ended : EndsAmong (run_service compiled s) steps (begun start) last (AreTold result (length counts))
    pub lacks : Appends old.said new.said (trace_text s.trace no_batch counts)
        ⊎ LacksALine s.trace (trace_text s.trace no_batch) counts (length (batches_of start ended.first)) old.said new.said
    pub outcomes : AllByRecursion (CommitsWhatEnded compiled s.partitions) (batches_of start steps)
