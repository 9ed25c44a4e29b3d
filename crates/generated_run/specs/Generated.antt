-- What a run on generated work has done: the bank's program served the requests of the work, in batches, its events were told, and what is committed has their outcomes.
use Rattle.std.specs.Prelude.{◌≡◌, ℕ, ◌⊎◌, false, List, [], ◌∷◌, Ok, Err, alloc_error}
use Rattle.std.specs.List.{AllByRecursion}
use Rattle.std.specs.declared.result.Result.{Result}
use Rattle.std.specs.declared.alloc.AllocError.{AllocError}
use Rattle.sf_outside.specs.Choices.{Begins}
use Rattle.work_gen.specs.Requests as work
use Rattle.entity_compiler.specs.Compiling.{IsCompiledOf}
use Rattle.block_step.specs.declared.compiled.Compiled.{Compiled}
use Rattle.block_step.specs.CompiledViews.{compiled_tables, compiled_blocks}
use Rattle.operator_graph.specs.Telling.{AlsoTold, GraphTold}
use Rattle.operator_graph.specs.Turns.{Outside}
use Rattle.reservations.specs.BatchRule.{batch_rule}
use Rattle.request_json.specs.Actions.{all_lines}
use Rattle.engine.specs.Cores.{Core, empty_core, IsSoundCore}
use Rattle.batch_output.specs.BatchOutput as output
use Rattle.batch_output.specs.BatchOutput.{Standing, begun}
use Rattle.batch_session.specs.Vocabulary.{Tally, all_steps, ran_on, no_batch, tally_after, RunBatches, BeginBatches, Service, program_of, limits_of, BatchCounts}
use Rattle.batch_session.specs.declared.serving.SessionFault.{SessionFault}
use Rattle.batch_session.specs.declared.serving.SessionFault.TheVariants as session
use Rattle.batch_run.specs.BatchOutcomes.{CommitsWhatEnded}
use Rattle.generated_run.specs.declared.running.GenSettings.{GenSettings}
use Rattle.generated_run.specs.declared.summing.Summary.{Summary}
use Rattle.generated_run.specs.Summaries.{counts_of, IsSummary}

-- nothing but want of memory stops the session
abbrev pub IsNoFault : Result Tally SessionFault → Type 0
IsNoFault (Ok tally) = Unit {0}
IsNoFault (Err session.ReadFault) = ⊥
IsNoFault (Err session.WriteFault) = ⊥
IsNoFault (Err session.DiskFault) = ⊥
IsNoFault (Err session.InputTooLong) = ⊥
IsNoFault (Err session.HistoryFull) = ⊥
IsNoFault (Err session.NoMemory) = Unit {0}

-- what it came to is then its tally, or want of memory
abbrev pub tally_of : Result Tally SessionFault → Result Tally AllocError
tally_of (Ok tally) = Ok tally
tally_of (Err fault) = Err alloc_error

-- the requests of the work
abbrev pub input_of : GenSettings → List ℕ
input_of s = work.requests s.size 1 s.number

-- how many entries the history may have
abbrev pub history_limit : ℕ
history_limit = 16777216

-- how they are served: this compiled program, with the rule by reservations
abbrev pub service_by : GenSettings → Compiled → Service
service_by s compiled = record { compiled = compiled; parts = s.parts; rule = batch_rule; limits = limits_of s.batch history_limit }

module _ (v : Service) (input : List ℕ) where
  -- where a session stands behind all lines of its input and the batches at its end
  abbrev pub last_standing : Standing
  last_standing = output.at_end (program_of v) v.rule v.limits (output.after (program_of v) v.rule v.limits (begun empty_core) (all_lines input))

  -- the cores that its batches run on, one after another
  abbrev pub batch_cores : List Core
  batch_cores = ran_on v (begun empty_core) (all_steps v empty_core input)

  -- the whole input was served: this core stands behind it, nothing waits, and each batch was run and told
  pub record ServesAll (core : Core) (old new : Outside) : Type 0 where
    pub lines : ℕ
    pub stands : last_standing ≡ record { core = core; lines = lines; is_full = false }
    pub none : core.pending ≡ []
    pub sound : IsSoundCore (program_of v) core
    pub counts : List BatchCounts
    pub ran : RunBatches v batch_cores counts old new

  -- some first batches were run and told, and of the next one perhaps some events
  pub record ServesSome (old new : Outside) : Type 0 where
    pub counts : List BatchCounts
    pub begun_on : BeginBatches v batch_cores counts old new

  -- it was served, and the batches were counted, or memory was wanted
  abbrev pub Serves : Result Tally AllocError → Core → Outside → Outside → Type 0
  Serves (Ok tally) core old new = (all : ServesAll core old new) × (tally ≡ tally_after no_batch all.counts)
  Serves (Err error) core old new = ServesSome old new

-- the chooser was started with the number of the work, and the watch told the graph
pub record Starts (s : GenSettings) (compiled : Compiled) (old new : Outside) : Type 0 where
  pub chooser : Begins old.choices s.number new.choices
  pub graph : AlsoTold old.told new.told (GraphTold (compiled_tables compiled) (compiled_blocks compiled) ∷ [])

module _ (s : GenSettings) (compiled : Compiled) where
  -- what each batch of the work commits has the outcomes that its events end with, whatever was picked
  abbrev pub EachCommitsWhatEnded : Type 0
  EachCommitsWhatEnded = AllByRecursion (CommitsWhatEnded compiled s.parts) (batch_cores (service_by s compiled) (input_of s))

  -- the work was served, and this is what it came to: the batches that were run, and their events, are counted as they are
  pub record SumsUp (summary : Summary) (old new : Outside) : Type 0 where
    pub started : Outside
    pub starts : Starts s compiled old started
    pub core : Core
    pub served : ServesAll (service_by s compiled) (input_of s) core started new
    pub summed : IsSummary s.size core (counts_of served.counts) summary
    pub outcomes : EachCommitsWhatEnded

  -- the work was served in part
  pub record GivesUp (old new : Outside) : Type 0 where
    pub started : Outside
    pub starts : Starts s compiled old started
    pub served : ServesSome (service_by s compiled) (input_of s) started new
    pub outcomes : EachCommitsWhatEnded

  -- where memory was wanted nothing may have been begun either
  abbrev pub Comes : Result Summary AllocError → Outside → Outside → Type 0
  Comes (Ok summary) old new = SumsUp summary old new
  Comes (Err error) old new = (new ≡ old) ⊎ GivesUp old new

module _ (s : GenSettings) where
  -- it is so for the bank's program, compiled: that is accepted, so nothing else can stop it
  abbrev pub Gives : Result Summary AllocError → Outside → Outside → Type 0
  Gives (Ok summary) old new = (compiled : Compiled) × IsCompiledOf work.program compiled × SumsUp s compiled summary old new
  Gives (Err error) old new = (new ≡ old) ⊎ ((compiled : Compiled) × IsCompiledOf work.program compiled × GivesUp s compiled old new)
