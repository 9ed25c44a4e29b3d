-- What a call did that was asked to serve generated work, by its status: what it printed, chose and told.
use Rattle.std.specs.Prelude.{ℕ, ◌≡◌, ◌⊎◌, List, []}
use Rattle.std.specs.Io.KnownBytes.{Appends, Keeps}
use Rattle.work_gen.specs.Requests as work
use Rattle.block_step.specs.declared.compiled.Compiled.{Compiled}
use Rattle.entity_compiler.specs.Compiling.{IsCompiledOf}
use Rattle.operator_graph.specs.Turns.{Outside}
use Rattle.batch_run.specs.Vocabulary.{RunBatches, BeginBatches, BatchCounts}
use Rattle.generated_run.specs.Generated.{Starts, service_by, input_of, batch_cores, EachCommitsWhatEnded}
use Rattle.command_words.specs.Commands as words
use Rattle.stateflow_cli.specs.Devices.{Devices, IsIdle}
use Rattle.stateflow_cli.specs.Endings.{work_for, PrintsSummary, PrintsSummaryFront}

-- the batches of the generated requests were run, one after another; or some first ones, and perhaps a part of the next
abbrev pub RunsWork : words.GenSettings → Compiled → List BatchCounts → Outside → Outside → Type 0
RunsWork s compiled counts old new =
    RunBatches (service_by (work_for s) compiled) (batch_cores (service_by (work_for s) compiled) (input_of (work_for s))) counts old new

abbrev pub BeginsWork : words.GenSettings → Compiled → List BatchCounts → Outside → Outside → Type 0
BeginsWork s compiled counts old new =
    BeginBatches (service_by (work_for s) compiled) (batch_cores (service_by (work_for s) compiled) (input_of (work_for s))) counts old new

module _ (s : words.GenSettings) (before after : Devices) where
  -- Whatever the status, the output gained a part of the line that sums up what the work came to, or nothing. The first status says that it gained the whole
  -- line, and the error stream nothing; that of want of memory that it gained nothing. There is none besides but that of a write fault: the words are right,
  -- the program has no fault, and all of the work is served.
  pub record SumsUpByStatus (status : ℕ) : Type 0 where
    pub whole : status ≡ 0 → PrintsSummary s before after × Appends before.err.held after.err.held []
    pub front : Keeps before.out.held after.out.held ⊎ PrintsSummaryFront s before after
    pub nothing : (status ≡ 0 → ⊥) → (status ≡ 4 → ⊥) → Keeps before.out.held after.out.held
    pub one_of : (status ≡ 0) ⊎ ((status ≡ 4) ⊎ (status ≡ 8))

  -- The chooser was started once, with the number of the work, and the watch was told one graph, which fits the generated program and means it, and whose
  -- blocks behind the first of a method have as parameters exactly what is live there; then the batches of the generated requests were told, each along the
  -- picks made for it: with the first status all of them, with that of a write fault, or of want of memory, some first ones, and perhaps a part of the next.
  -- What each batch commits has the outcomes that its events ended with.
  pub record TellsWork (status : ℕ) : Type 0 where
    pub compiled : Compiled
    pub is : IsCompiledOf work.program compiled
    pub started : Outside
    pub starts : Starts (work_for s) compiled before.outside started
    pub counts : List BatchCounts
    pub begun : BeginsWork s compiled counts started after.outside
    pub whole : status ≡ 0 → RunsWork s compiled counts started after.outside
    pub outcomes : EachCommitsWhatEnded (work_for s) compiled

  -- or nothing was begun
  abbrev pub WorkTells : ℕ → Type 0
  WorkTells status = (IsIdle before after × (after.outside ≡ before.outside)) ⊎ TellsWork status
