-- How an audit of a run ends, and what it did to its devices by then.
use Rattle.std.specs.Prelude.{ℕ, ◌≡◌, ◌⊎◌, List, IfSome, Ok, Err}
use Rattle.std.specs.declared.option.Option.{Option}
use Rattle.std.specs.Io.KnownBytes.{Appends}
use Rattle.sf_outside.specs.Bytes.{AppendsPrefix}
use Rattle.sf_outside.specs.Causes.{Rose}
use Rattle.program_meaning.specs.ClassTables.{Source}
use Rattle.program_text.specs.declared.fault.ProgramFault.{ProgramFault}
use Rattle.run_audit.specs.Audits.{Audits}
use Rattle.run_audit.specs.declared.verdict.Verdict.{Verdict}
use Rattle.run_audit.specs.declared.fault.AuditFault.TheVariants.{InputTooLong}
use Rattle.stateflow_cli.specs.Devices.{Devices}
use Rattle.stateflow_cli.specs.Loading.{Holds, Refuses, source_in}
use Rattle.stateflow_cli.specs.Verdicts.{verdict_text, verdict_ending}
use Rattle.stateflow_cli.specs.declared.ending.Finding.TheVariants as of_found
use Rattle.stateflow_cli.specs.declared.ending.Ending.{Ending}
use Rattle.stateflow_cli.specs.declared.ending.Ending.TheVariants.{Refused, FileFault, NoMemory, Unprinted, Found}

-- this is the verdict on the bytes of a run, where they are told; of a longer one than counts, by its first bytes
abbrev pub IsVerdict : ℕ → Source → Option (List ℕ) → Verdict → Type 0
IsVerdict limit src content v = IfSome content (λ all. Audits src limit all (Ok v))

-- they are more than count, and those that count decide nothing
abbrev pub DecidesNothing : ℕ → Source → Option (List ℕ) → Type 0
DecidesNothing limit src content = IfSome content (λ all. Audits src limit all (Err InputTooLong))

-- a fault of the program's file was counted, or one of the run's
abbrev pub FilesRose : List ℕ → List ℕ → Devices → Devices → Type 0
FilesRose file run before after = Rose (before.file_faults file) (after.file_faults file) ⊎ Rose (before.file_faults run) (after.file_faults run)

-- The program's text has a fault; or a file can't be read, or memory was wanted; or its program gives a verdict on the run, whose text was printed, or was in
-- part, since the output failed; or the run decides nothing.
pub data AuditWays (limit : ℕ) (file run : List ℕ) (before after : Devices) (ending : Ending) : Type 0 where
  TurnsDown : (fault : ProgramFault) → ending ≡ Refused fault → Refuses (before.content file) fault → after.out ≡ before.out
      → AuditWays limit file run before after ending
  CannotRead : ending ≡ FileFault → FilesRose file run before after → after.out ≡ before.out → AuditWays limit file run before after ending
  WantsMemory : ending ≡ NoMemory → after.out ≡ before.out → AuditWays limit file run before after ending
  Concludes : (holds : Holds (before.content file)) (v : Verdict) → ending ≡ verdict_ending v
      → IsVerdict limit (source_in (before.content file) holds) (before.content run) v → Appends before.out.held after.out.held (verdict_text v)
      → AuditWays limit file run before after ending
  ConcludesInPart : (holds : Holds (before.content file)) (v : Verdict) → ending ≡ Unprinted
      → IsVerdict limit (source_in (before.content file) holds) (before.content run) v → AppendsPrefix before.out.held after.out.held (verdict_text v)
      → Rose before.out.faults after.out.faults → AuditWays limit file run before after ending
  ComesToNothing : (holds : Holds (before.content file)) → ending ≡ Found of_found.TooLong
      → DecidesNothing limit (source_in (before.content file) holds) (before.content run) → after.out ≡ before.out
      → AuditWays limit file run before after ending

-- it reads nothing of the input, says, chooses and tells nothing
pub record AuditEnds (limit : ℕ) (file run : List ℕ) (before after : Devices) (ending : Ending) : Type 0 where
  pub input : after.input ≡ before.input
  pub err : after.err ≡ before.err
  pub outside : after.outside ≡ before.outside
  pub ways : AuditWays limit file run before after ending
