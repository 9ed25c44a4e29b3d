-- What a run promises of its session: the replies are those of the source methods, run one request after another, and what is left of a store stands for them.
use Rattle.std.specs.Prelude.{ℕ, ◌≡◌, ◌+◌, ◌⊎◌, true, false, List, [], ◌∷◌, length, Some, IfSome}
use Rattle.std.specs.List.{AllByRecursion}
use Rattle.std.specs.Io.KnownBytes.{Appends}
use Rattle.sf_outside.specs.Bytes.{AppendsPrefix}
use Rattle.sf_outside.specs.Causes.{Rose}
use Rattle.sf_outside.specs.Handing.{IsHandedOn}
use Rattle.sf_outside.specs.DiskModel.{Image, DiskFacts}
use Rattle.block_step.specs.CompiledViews.{compiled_program, compiled_names, compiled_tables, compiled_blocks}
use Rattle.live_laws.specs.Cut.{GraphHasLiveParams}
use Rattle.block_step.specs.Compilation.{IsCompilation}
use Rattle.operator_graph.specs.Turns.{Outside}
use Rattle.engine.specs.Replays.{settled}
use Rattle.store_meaning.specs.declared.position.Position.{Position}
use Rattle.store_meaning.specs.StandsFor.{StandsFor}
use Rattle.session_store.specs.Endings.{next_core}
use Rattle.session_store.specs.Stores.{StandsSomewhere}
use Rattle.session_store.specs.Vocabulary.{IsStorable}
use Rattle.store_opening.specs.Openings.{WasAt}
use Rattle.batch_run.specs.Vocabulary.{LacksALine, numbered_text, RunBatches, BeginBatches, FlushesBatches, begun}
use Rattle.batch_run.specs.RunViews.{run_service}
use Rattle.batch_run.specs.RunEvents.{Starts}
use Rattle.batch_run.specs.BatchOutcomes.{CommitsWhatEnded}
use Rattle.batch_run.specs.GrownCores.{TakesWrites, entries_of}
use Rattle.command_words.specs.Commands as words
use Rattle.stateflow_cli.specs.Devices.{Devices, Output}
use Rattle.stateflow_cli.specs.Starts.{program_of, rule_for}
use Rattle.stateflow_cli.specs.Answers.{TellsStatus}
use Rattle.stateflow_cli.specs.StoredRuns.{RunMoments}
use Rattle.stateflow_cli.specs.StoreClauses.{MountsOnce, KeepsLast}
use Rattle.stateflow_cli.specs.Session.{IsOneOf, Session, source_of, settings_of, batches, committed}
use Rattle.stateflow_cli.specs.SessionText.{IsSerial, PrintsText}

module _ {limit : ℕ} {file : List ℕ} {s : words.RunSettings} {before after : Devices} {status : ℕ} (it : Session limit file s before after status) where
  -- But with the status of a write fault all that the output holds was handed on, as far as that is told; or with that of a fault of the disk the output failed too.
  -- And whatever the status, behind the last of the batches that were told to their ends all that it held then was handed on.
  pub record FlushesOutput : Type 0 where
    pub all : IsOneOf status (0 ∷ 3 ∷ 8 ∷ 9 ∷ 10 ∷ []) → IsHandedOn after.out.handed after.out.held
    pub unstored : status ≡ 5 → IsHandedOn after.out.handed after.out.held ⊎ Rose before.out.faults after.out.faults
    pub batches : FlushesBatches (run_service it.compiled (settings_of it)) it.steps (begun it.start) (length it.counts) before.out.held before.out.handed after.out.handed

  -- The error stream gained the lines of the batches that were told to their ends, where they are to be traced, and then a line of the status. With that of a
  -- write fault a part of those lines: all but that of the last batch, of which a part, and then all batches that were committed were told; or all.
  pub record TracesBatches : Type 0 where
    pub behind : Output
    pub part : AppendsPrefix before.err.held behind.held (numbered_text s.trace it.counts)
    pub whole : (status ≡ 4 → ⊥) → Appends before.err.held behind.held (numbered_text s.trace it.counts)
    pub lacks : Appends before.err.held behind.held (numbered_text s.trace it.counts)
        ⊎ LacksALine s.trace (numbered_text s.trace) it.counts (length (committed it)) before.err.held behind.held
    pub line : TellsStatus file behind after.err status

  -- The chooser was started once, and the watch was told one graph, which fits the file's program and means it, and whose blocks behind the first of a method have
  -- as parameters exactly what is live there; then the batches of what was taken were told, each along the picks made for it. Only with the status of a write
  -- fault, of a fault of the disk or of want of memory may these be some first ones, and a part of the next. What each batch commits has the outcomes that its
  -- events ended with.
  pub record RunsGraph : Type 0 where
    pub graph : IsCompilation (compiled_names it.compiled) (compiled_program it.compiled) (compiled_tables it.compiled) (compiled_blocks it.compiled)
    pub live : GraphHasLiveParams (compiled_names it.compiled) (compiled_program it.compiled) (compiled_blocks it.compiled)
    pub started : Outside
    pub starts : Starts it.compiled (settings_of it) before.outside started
    pub begun : BeginBatches (run_service it.compiled (settings_of it)) (batches it) it.counts started after.outside
    pub whole : (IsOneOf status (4 ∷ 5 ∷ 8 ∷ []) → ⊥) → RunBatches (run_service it.compiled (settings_of it)) (batches it) it.counts started after.outside
    pub outcomes : AllByRecursion (CommitsWhatEnded it.compiled s.partitions) (batches it)

  -- ---- the store

  -- Each image that a crash now may leave stands for the last core, but for the requests that came since the last batch; or, where the disk failed, perhaps
  -- for the core behind the batch that was next.
  pub record KeepsCommitted (now : DiskFacts) : Type 0 where
    pub fresh : ℕ
    pub storable : IsStorable it.last fresh
    pub each : (image : Image) → now.may_leave image
        → StandsSomewhere (program_of (source_of it) it.holds.text) image (settled it.last fresh)
        ⊎ ((it.failed ≡ true) × StandsSomewhere (program_of (source_of it) it.holds.text) image (next_core (rule_for s) (source_of it) it.last))

  -- each such image stands for the last core itself, and its epoch is the one at which the store was opened and one more for each so many batches
  pub record KeepsAll (dir : List ℕ) (now : DiskFacts) : Type 0 where
    pub opened : Position
    pub found : IfSome (before.disk.found dir)
        (λ image. (place : Position) × WasAt place opened × StandsFor (program_of (source_of it) it.holds.text) image it.start place)
    pub keeps : KeepsLast (program_of (source_of it) it.holds.text) it.last now opened.epoch s.every (length it.counts)

  -- So it is, behind so many batches, of the core but for the requests that came since the last batch.
  pub record KeepsInTurn (dir : List ℕ) (now : DiskFacts) (batches : ℕ) : Type 0 where
    pub opened : Position
    pub found : IfSome (before.disk.found dir)
        (λ image. (place : Position) × WasAt place opened × StandsFor (program_of (source_of it) it.holds.text) image it.start place)
    pub fresh : ℕ
    pub storable : IsStorable it.last fresh
    pub keeps : KeepsLast (program_of (source_of it) it.holds.text) (settled it.last fresh) now opened.epoch s.every batches

  -- batches are traced, and so it is behind all that were told but the last: the checkpoint that may be due behind that one, whose line couldn't be written, isn't
  -- made
  pub record OwesACheckpoint (dir : List ℕ) (now : DiskFacts) : Type 0 where
    pub asked : s.trace ≡ true
    pub all_but_one : ℕ
    pub one_more : all_but_one + 1 ≡ length it.counts
    pub keeps : KeepsInTurn dir now all_but_one

  pub record Headline (now : DiskFacts) : Type 0 where
    -- The entries of the batches that were committed, in turn, and the last state are those of running their requests one after another, and each line is that
    -- of its entry; only with the status of a write fault, where no disk failed, may replies to a batch be unwritten. And the state behind each batch is the one
    -- before it with what its committed requests wrote, each run by itself.
    pub serial : IsSerial (source_of it) (settings_of it) it.start it.last before.out.held after.out.held
        (entries_of (source_of it) (rule_for s) (committed it)) ((it.failed ≡ false) × (status ≡ 4))
    pub writes : AllByRecursion (TakesWrites (source_of it) (rule_for s)) (batches it)
    -- what was printed, handed on and traced
    pub text : PrintsText (source_of it) (settings_of it) it.start it.last before.out.held after.out.held status after.input.left it.taken
    pub flushed : FlushesOutput
    pub trace : TracesBatches
    -- what was chosen and told
    pub events : RunsGraph
    -- Where the words name a store: it was mounted once; what a crash may have left since; what one may leave now; where checkpoints came in their turn, and with
    -- the status of a write fault, where no disk failed, perhaps but for the last batch; and where all is served
    pub mounted : (dir : List ℕ) → s.store ≡ Some dir → MountsOnce dir before after now
    pub since : (dir : List ℕ) → s.store ≡ Some dir
        → RunMoments it.compiled (settings_of it) it.holds.text it.start it.steps (before.disk.found dir) after.disk.mounts.moment now
    pub kept : (dir : List ℕ) → s.store ≡ Some dir → KeepsCommitted now
    pub in_turn : (dir : List ℕ) → s.store ≡ Some dir → IsOneOf status (3 ∷ 8 ∷ 9 ∷ 10 ∷ []) → KeepsInTurn dir now (length it.counts)
    pub owing : (dir : List ℕ) → s.store ≡ Some dir → status ≡ 4 → it.failed ≡ false → KeepsInTurn dir now (length it.counts) ⊎ OwesACheckpoint dir now
    pub final : (dir : List ℕ) → s.store ≡ Some dir → status ≡ 0 → KeepsAll dir now
