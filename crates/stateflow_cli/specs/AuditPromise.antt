-- What a call promises that was asked to audit a run.
use Rattle.std.specs.Prelude.{ℕ, ◌≡◌, ◌⊎◌, List, [], ◌∷◌}
use Rattle.std.specs.Io.KnownBytes.{Appends}
use Rattle.sf_outside.specs.Bytes.{AppendsPrefix}
use Rattle.program_meaning.specs.ClassTables.{Source}
use Rattle.run_audit.specs.declared.verdict.Verdict.{Verdict}
use Rattle.stateflow_cli.specs.Devices.{Devices}
use Rattle.stateflow_cli.specs.Loading.{Holds, source_in}
use Rattle.stateflow_cli.specs.StatusLines.{status_of, line_of}
use Rattle.stateflow_cli.specs.Verdicts.{verdict_text, verdict_ending}
use Rattle.stateflow_cli.specs.AuditEnds.{IsVerdict, DecidesNothing, FilesRose}
use Rattle.stateflow_cli.specs.Answers.{TellsStatus, TellsFault}
use Rattle.stateflow_cli.specs.Causes.{HasItsStatus, IsFault, OfText, IsTold}
use Rattle.stateflow_cli.specs.Session.{IsOneOf}

-- the file's program gives this verdict on the run
pub record HasVerdict (limit : ℕ) (file run : List ℕ) (before : Devices) (v : Verdict) : Type 0 where
  pub holds : Holds (before.content file)
  pub is : IsVerdict limit (source_in (before.content file) holds) (before.content run) v

-- there is a verdict: the status is its own, its text was printed, and its line told
pub record TellsVerdict (limit : ℕ) (file run : List ℕ) (before after : Devices) (status : ℕ) : Type 0 where
  pub verdict : Verdict
  pub has : HasVerdict limit file run before verdict
  pub own : status ≡ status_of (verdict_ending verdict)
  pub wrote : Appends before.out.held after.out.held (verdict_text verdict)
  pub line : Appends before.err.held after.err.held (line_of file (verdict_ending verdict))

-- the output gained a prefix of the text of a verdict
pub record PrintsVerdictFront (limit : ℕ) (file run : List ℕ) (before after : Devices) : Type 0 where
  pub verdict : Verdict
  pub has : HasVerdict limit file run before verdict
  pub front : AppendsPrefix before.out.held after.out.held (verdict_text verdict)

-- The program gives a verdict on the run, or the run decides nothing.
pub data OfRun (limit : ℕ) (run : List ℕ) (before : Devices) (src : Source) (text : List ℕ) (status : ℕ) : Type 0 where
  GivesVerdict : (v : Verdict) → status ≡ status_of (verdict_ending v) → IsVerdict limit src (before.content run) v → OfRun limit run before src text status
  GivesNone : status ≡ 9 → DecidesNothing limit src (before.content run) → OfRun limit run before src text status

-- the program's text is told, and where it has no fault the run
pub record AreTold (file run : List ℕ) (before : Devices) (status : ℕ) : Type 0 where
  pub text : IsTold (before.content file)
  pub lines : (status ≡ 1 → ⊥) → IsTold (before.content run)

pub record AuditPromise (limit : ℕ) (file run : List ℕ) (before after : Devices) (status : ℕ) : Type 0 where
  -- nothing of the input was touched, and nothing was chosen and told
  pub input : after.input ≡ before.input
  pub outside : after.outside ≡ before.outside
  -- with 0, 13 and 14 a verdict was told: the run is serial, or an entry differs, or a line is bad; with 1 a fault of the program's text was
  pub verdict : IsOneOf status (0 ∷ 13 ∷ 14 ∷ []) → TellsVerdict limit file run before after status
  pub told : status ≡ 1 → TellsFault file before after
  -- whatever the status, the output is as it was, or gained a prefix of the text of a verdict on the run; and with 1, 3, 8 and 9 it is as it was
  pub front : (after.out ≡ before.out) ⊎ PrintsVerdictFront limit file run before after
  pub nothing : IsOneOf status (1 ∷ 3 ∷ 8 ∷ 9 ∷ []) → after.out ≡ before.out
  -- the error stream gained the line of the status
  pub line : TellsStatus file before.err after.err status
  -- the status is 0, 1, 9, 13 or 14 exactly where its cause is
  pub causes : HasItsStatus (OfText (before.content file) (OfRun limit run before)) (AreTold file run before) (IsFault (FilesRose file run before after) ⊥ before after) status
