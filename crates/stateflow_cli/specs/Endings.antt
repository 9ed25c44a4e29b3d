-- Why a call ends, and what it did to its devices by then.
use Rattle.std.specs.Prelude.{ℕ, ◌≡◌, ◌≤◌, ◌⊎◌, List, Some, Ok, Err, alloc_error}
use Rattle.std.specs.declared.result.Result.{Result}
use Rattle.std.specs.Io.KnownBytes.{Appends, Keeps}
use Rattle.sf_outside.specs.Bytes.{AppendsPrefix}
use Rattle.sf_outside.specs.Causes.{Rose}
use Rattle.sf_outside.specs.DiskModel.{DiskFacts}
use Rattle.sf_outside.specs.Handing.{IsHandedOn}
use Rattle.aria_batch.specs.BatchRun.{source_of}
use Rattle.block_step.specs.declared.compiled.Compiled.{Compiled}
use Rattle.engine.specs.Cores.{Core}
use Rattle.store_opening.specs.declared.stop.OpenStop.{OpenStop}
use Rattle.entity_compiler.specs.Compiling.{IsCompiledOf}
use Rattle.session.specs.Served as session
use Rattle.session.specs.declared.feeding.InputEnd.{InputEnd}
use Rattle.session.specs.declared.feeding.InputEnd.TheVariants as input
use Rattle.session.specs.declared.stopping.SessionStop.{SessionStop}
use Rattle.session.specs.declared.stopping.SessionStop.TheVariants as local
use Rattle.command_words.specs.Commands as words
use Rattle.batch_run.specs.Vocabulary.{Tally, SessionFault, IsFlushedBy}
use Rattle.batch_run.specs.SessionFaultVariants.{ReadFault, WriteFault, InputTooLong, HistoryFull}
use Rattle.batch_run.specs.SessionFaultVariants as cause
use Rattle.batch_run.specs.declared.running.RunSettings.{RunSettings}
use Rattle.batch_run.specs.RunViews.{Shown}
use Rattle.batch_run.specs.Runs.{Ran}
use Rattle.generated_run.specs.declared.running.GenSettings.{GenSettings}
use Rattle.generated_run.specs.declared.summing.Summary.{Summary}
use Rattle.generated_run.specs.Summaries.{summary_line}
use Rattle.generated_run.specs.Generated.{Gives}
use Rattle.stateflow_cli.specs.Devices.{Devices, AreUnread, IsIdle, IsStill}
use Rattle.stateflow_cli.specs.Loading.{Refuses, Holds, HoldsOne, source_in}
use Rattle.stateflow_cli.specs.Starts.{IsStart}
use Rattle.stateflow_cli.specs.StoredRuns.{KeepsIn, FailsToOpen, IsUntouched, MomentsIn}
use Rattle.py_tree.specs.PlainProgram.{PlainProgram}
use Rattle.operator_graph.specs.Turns.{Outside}
use Rattle.program_text.specs.declared.fault.ProgramFault.{ProgramFault}
use Rattle.stateflow_cli.specs.declared.ending.Ending.{Ending}
use Rattle.stateflow_cli.specs.declared.ending.Ending.TheVariants.{Misused, Refused, FileFault, NoMemory, Printed, Unprinted, Served, Stopped, Unopened, Found}

-- the most bytes of input that a call takes in, 2^40, and the most entries of the history that `local` keeps
abbrev pub longest_input : ℕ
longest_input = 1099511627776

abbrev pub local_history : ℕ
local_history = 16777216

-- which text is a report on a program, by its names and its tree, and what is chosen and told for it
abbrev pub Report : Type 1
Report = List (List ℕ) → PlainProgram → Outside → Outside → List ℕ → Type 0

-- the file's program is accepted and a report on it was printed
pub record Prints (Is : Report) (file : List ℕ) (before after : Devices) : Type 0 where
  pub holds : Holds (before.content file)
  pub text : List ℕ
  pub is : Is holds.names holds.program before.outside after.outside text
  pub wrote : Appends before.out.held after.out.held text
  pub left : Keeps before.input.left after.input.left

-- the file's program is accepted and a report on it was printed in part, since the output failed
pub record PrintsInPart (Is : Report) (file : List ℕ) (before after : Devices) : Type 0 where
  pub holds : Holds (before.content file)
  pub text : List ℕ
  pub is : Is holds.names holds.program before.outside after.outside text
  pub wrote : AppendsPrefix before.out.held after.out.held text
  pub left : Keeps before.input.left after.input.left
  pub out_cause : Rose before.out.faults after.out.faults

-- the file's program served the input by the direct interpreter
pub record Interprets (limit : ℕ) (file : List ℕ) (before after : Devices) (result : Result InputEnd SessionStop) : Type 0 where
  pub holds : Holds (before.content file)
  pub served : session.Served (source_in (before.content file) holds) limit local_history before.input.left after.input.left before.out.held after.out.held
      result
  pub input_cause : result ≡ Ok input.ReadFault → Rose before.input.faults after.input.faults
  pub out_cause : result ≡ Err local.WriteFault → Rose before.out.faults after.out.faults
  pub handed : (result ≡ Err local.WriteFault → ⊥) → IsHandedOn after.out.handed after.out.held
  pub err : after.err ≡ before.err
  pub outside : after.outside ≡ before.outside

-- what a run shows of the devices
abbrev pub shown_of : Devices → Shown
shown_of d = record { left = d.input.left; held = d.out.held; handed = d.out.handed; said = d.err.held; outside = d.outside }

-- the settings that words give, with the most bytes of input that count
abbrev pub settings_for : ℕ → words.RunSettings → RunSettings
settings_for limit s =
    record { batch = s.batch; partitions = s.partitions; schedule = s.schedule; history = s.history; limit = limit; reorder = s.reorder; trace = s.trace }

-- the file's program was compiled and run on the input, from the core that the run began with to the last one
pub record RunsFile (limit : ℕ) (file : List ℕ) (s : words.RunSettings) (before after : Devices) (now : DiskFacts)
    (result : Result Tally SessionFault) : Type 0 where
  pub compiled : Compiled
  pub holds : HoldsOne (λ text. IsCompiledOf text compiled) (before.content file)
  pub start : Core
  pub is_start : IsStart s before (source_of compiled) holds.text start
  pub last : Core
  pub runs : Ran compiled (settings_for limit s) start last result (shown_of before) (shown_of after)
  pub input_cause : result ≡ Err ReadFault → Rose before.input.faults after.input.faults
  pub write_cause : result ≡ Err WriteFault → Rose before.out.faults after.out.faults ⊎ Rose before.err.faults after.err.faults
  pub handed : IsFlushedBy result after.out.handed after.out.held before.out.faults after.out.faults
  pub err_later : before.err.faults ≤ after.err.faults
  pub keeps : KeepsIn s.store s (source_of compiled) holds.text start last before.disk after.disk now result runs.tells.counts
  pub moments : MomentsIn s.store compiled (settings_for limit s) holds.text start runs.steps before.disk after.disk now

-- memory was wanted before the run began
pub record GivesUp (before after : Devices) (was now : DiskFacts) (stop : SessionFault) : Type 0 where
  pub is : stop ≡ cause.NoMemory
  pub idle : IsIdle before after
  pub said : after.err.held ≡ before.err.held
  pub outside : after.outside ≡ before.outside
  pub err_later : before.err.faults ≤ after.err.faults
  pub untouched : IsUntouched before.disk after.disk was now

-- the work that words give
abbrev pub work_for : words.GenSettings → GenSettings
work_for s = record { number = s.number; size = s.size; batch = s.batch; parts = s.partitions }

-- the work was made, and served by its compiled program to the end, and the line that sums it up was printed
pub record PrintsSummary (s : words.GenSettings) (before after : Devices) : Type 0 where
  pub summary : Summary
  pub gives : Gives (work_for s) (Ok summary) before.outside after.outside
  pub wrote : Appends before.out.held after.out.held (summary_line summary)

-- that line was printed in part
pub record PrintsSummaryFront (s : words.GenSettings) (before after : Devices) : Type 0 where
  pub summary : Summary
  pub gives : Gives (work_for s) (Ok summary) before.outside after.outside
  pub front : AppendsPrefix before.out.held after.out.held (summary_line summary)

-- memory was wanted before anything was printed
pub record IsGivenUp (s : words.GenSettings) (before after : Devices) : Type 0 where
  pub gives : Gives (work_for s) (Err alloc_error) before.outside after.outside
  pub out : after.out ≡ before.out

-- the store in the folder that the words name wasn't opened for the file's program
pub record IsUnopened (file : List ℕ) (s : words.RunSettings) (before after : Devices) (was now : DiskFacts) (stop : OpenStop) : Type 0 where
  pub dir : List ℕ
  pub named : s.store ≡ Some dir
  pub compiled : Compiled
  pub holds : HoldsOne (λ text. IsCompiledOf text compiled) (before.content file)
  pub fails : FailsToOpen dir (source_of compiled) holds.text before.disk after.disk was now stop
  pub still : IsStill before after

-- the file's text has this fault
pub record IsTurnedDown (file : List ℕ) (before after : Devices) (fault : ProgramFault) : Type 0 where
  pub refused : Refuses (before.content file) fault
  pub still : IsStill before after

-- the file could not be read
pub record IsUnread (file : List ℕ) (before after : Devices) : Type 0 where
  pub file_cause : Rose (before.file_faults file) (after.file_faults file)
  pub still : IsStill before after

-- what reports on the program serves no input, and says nothing
abbrev pub ReportEnds : Report → List ℕ → Devices → Devices → Ending → Type 0
ReportEnds Is file before after Misused = ⊥
ReportEnds Is file before after (Refused fault) = IsTurnedDown file before after fault
ReportEnds Is file before after FileFault = IsUnread file before after
ReportEnds Is file before after NoMemory = IsStill before after
ReportEnds Is file before after Printed = Prints Is file before after × (after.err ≡ before.err)
ReportEnds Is file before after Unprinted = PrintsInPart Is file before after × (after.err ≡ before.err)
ReportEnds Is file before after Served = ⊥
ReportEnds Is file before after (Stopped stop) = ⊥
ReportEnds Is file before after (Unopened stop) = ⊥
ReportEnds Is file before after (Found finding) = ⊥

-- what serves the input prints nothing of what it found of the program
abbrev pub LocalEnds : ℕ → List ℕ → Devices → Devices → Ending → Type 0
LocalEnds limit file before after Misused = ⊥
LocalEnds limit file before after (Refused fault) = IsTurnedDown file before after fault
LocalEnds limit file before after FileFault = IsUnread file before after
LocalEnds limit file before after NoMemory = IsStill before after
LocalEnds limit file before after Printed = ⊥
LocalEnds limit file before after Unprinted = ⊥
LocalEnds limit file before after Served = Interprets limit file before after (Ok input.End)
LocalEnds limit file before after (Stopped ReadFault) = Interprets limit file before after (Ok input.ReadFault)
LocalEnds limit file before after (Stopped InputTooLong) = Interprets limit file before after (Ok input.TooLong)
LocalEnds limit file before after (Stopped HistoryFull) = Interprets limit file before after (Err local.HistoryFull)
LocalEnds limit file before after (Stopped cause.NoMemory) = Interprets limit file before after (Err local.NoMemory)
LocalEnds limit file before after (Stopped WriteFault) = Interprets limit file before after (Err local.WriteFault)
LocalEnds limit file before after (Stopped cause.DiskFault) = ⊥
LocalEnds limit file before after (Unopened stop) = ⊥
LocalEnds limit file before after (Found finding) = ⊥

abbrev pub RunEnds : ℕ → List ℕ → words.RunSettings → Devices → Devices → DiskFacts → DiskFacts → Ending → Type 0
RunEnds limit file s before after was now Misused = ⊥
RunEnds limit file s before after was now (Refused fault) = IsTurnedDown file before after fault × IsUntouched before.disk after.disk was now
RunEnds limit file s before after was now FileFault = IsUnread file before after × IsUntouched before.disk after.disk was now
RunEnds limit file s before after was now NoMemory = IsStill before after × IsUntouched before.disk after.disk was now
RunEnds limit file s before after was now Printed = ⊥
RunEnds limit file s before after was now Unprinted = ⊥
RunEnds limit file s before after was now Served = (tally : Tally) × RunsFile limit file s before after now (Ok tally)
RunEnds limit file s before after was now (Stopped stop) = GivesUp before after was now stop ⊎ RunsFile limit file s before after now (Err stop)
RunEnds limit file s before after was now (Unopened stop) = IsUnopened file s before after was now stop
RunEnds limit file s before after was now (Found finding) = ⊥

-- what serves generated work prints the line that sums it up, or nothing; its program has no fault
abbrev pub SumsUpBy : words.GenSettings → Devices → Devices → Ending → Type 0
SumsUpBy s before after Misused = ⊥
SumsUpBy s before after (Refused fault) = ⊥
SumsUpBy s before after FileFault = ⊥
SumsUpBy s before after NoMemory = IsGivenUp s before after
SumsUpBy s before after Printed = PrintsSummary s before after
SumsUpBy s before after Unprinted = PrintsSummaryFront s before after × Rose before.out.faults after.out.faults
SumsUpBy s before after Served = ⊥
SumsUpBy s before after (Stopped stop) = ⊥
SumsUpBy s before after (Unopened stop) = ⊥
SumsUpBy s before after (Found finding) = ⊥

-- it reads no file and no input, and says nothing
pub record GenEnds (s : words.GenSettings) (before after : Devices) (ending : Ending) : Type 0 where
  pub unread : AreUnread before after
  pub err : after.err ≡ before.err
  pub sums : SumsUpBy s before after ending

-- how a session ends the call
abbrev pub local_ending : Result InputEnd SessionStop → Ending
local_ending (Ok input.End) = Served
local_ending (Ok input.ReadFault) = Stopped ReadFault
local_ending (Ok input.TooLong) = Stopped InputTooLong
local_ending (Err local.HistoryFull) = Stopped HistoryFull
local_ending (Err local.NoMemory) = Stopped cause.NoMemory
local_ending (Err local.WriteFault) = Stopped WriteFault

abbrev pub run_ending : Result Tally SessionFault → Ending
run_ending (Ok tally) = Served
run_ending (Err fault) = Stopped fault
