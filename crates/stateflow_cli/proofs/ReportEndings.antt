-- How a report on a program ends, by its status.
use Rattle.std.proofs.Common.{◌≡◌, ℕ, ◌⊎◌, inl, inr, List, [], refl, arith}
use Rattle.std.specs.declared.option.Option.{Option}
use Rattle.std.specs.Io.KnownBytes.{Appends}
use Rattle.batch_run.proofs.Vocabulary.{prefix_whole}
use Rattle.stateflow_cli.specs.Devices.{Devices, Output, with_err, IsIdle, IsStill}
use Rattle.stateflow_cli.specs.Endings.{Report, ReportEnds, Prints}
use Rattle.stateflow_cli.specs.StatusLines.{status_of, line_of}
use Rattle.stateflow_cli.specs.Causes.{IsFault, WasUnread, WasUnwritten, WantedMemory, FileRose, OfText, HasNoProgram, HasProgram}
use Rattle.stateflow_cli.specs.ReportPromise.{PrintsFront, IsSilent}
use Rattle.stateflow_cli.specs.Loading.{Refuses}
use Rattle.program_text.specs.declared.fault.ProgramFault.{ProgramFault}
use Rattle.stateflow_cli.specs.declared.ending.Ending.{Ending}
use Rattle.stateflow_cli.specs.declared.ending.Ending.TheVariants.{Misused, Refused, FileFault, NoMemory, Printed, Unprinted, Served, Stopped, Unopened, Found}

-- nothing was done before the line of the status was told
module _ (before after : Devices) (behind : Output) where
  pub still_idle : IsStill before (with_err behind after) → IsIdle before after
  still_idle s = record { left = s.idle.left; held = s.idle.held }

  pub still_silent : IsStill before (with_err behind after) → IsSilent before after
  still_silent s = record { held = s.idle.held; outside = s.outside }

module _ (Is : Report) (before after : Devices) (behind : Output) (file : List ℕ) where
  abbrev mid : Devices
  mid = with_err behind after

  printed_all : Prints Is file before mid → Prints Is file before after
  printed_all p = record { holds = p.holds; text = p.text; is = p.is; wrote = p.wrote; left = p.left }

  -- why it has its status
  pub report_cause : (status : ℕ) (e : Ending) → ReportEnds Is file before mid e → status ≡ status_of e
      → OfText (before.content file) (λ src text k. k ≡ 0) status ⊎ IsFault (FileRose file before after) ⊥ before after status
  report_cause status Misused ends s = absurd ends
  report_cause status (Refused f) ends s = inl (HasNoProgram f s ends.refused)
  report_cause status FileFault ends s = inr (WasUnread s ends.file_cause)
  report_cause status NoMemory ends s = inr (WantedMemory s)
  report_cause status Printed ends s = inl (HasProgram ends.0.holds s)
  report_cause status Unprinted ends s = inr (WasUnwritten s (inl ends.0.out_cause))
  report_cause status Served ends s = absurd ends
  report_cause status (Stopped stopped) ends s = absurd ends
  report_cause status (Unopened stopped) ends s = absurd ends
  report_cause status (Found finding) ends s = absurd ends

  -- what it said, printed, chose and told, whatever the ending
  pub report_err : (e : Ending) → ReportEnds Is file before mid e → behind ≡ before.err
  report_err Misused ends = absurd ends
  report_err (Refused f) ends = ends.still.err
  report_err FileFault ends = ends.still.err
  report_err NoMemory ends = ends.err
  report_err Printed ends = ends.1
  report_err Unprinted ends = ends.1
  report_err Served ends = absurd ends
  report_err (Stopped stopped) ends = absurd ends
  report_err (Unopened stopped) ends = absurd ends
  report_err (Found finding) ends = absurd ends

  pub report_prints : (e : Ending) → ReportEnds Is file before mid e → IsSilent before after ⊎ PrintsFront Is file before after
  report_prints Misused ends = absurd ends
  report_prints (Refused f) ends = inl (still_silent before after behind ends.still)
  report_prints FileFault ends = inl (still_silent before after behind ends.still)
  report_prints NoMemory ends = inl (still_silent before after behind ends)
  report_prints Printed ends = let p = ends.0 in inr (record { holds = p.holds; text = p.text; is = p.is; front = prefix_whole before.out.held after.out.held p.text p.wrote })
  report_prints Unprinted ends = let p = ends.0 in inr (record { holds = p.holds; text = p.text; is = p.is; front = p.wrote })
  report_prints Served ends = absurd ends
  report_prints (Stopped stopped) ends = absurd ends
  report_prints (Unopened stopped) ends = absurd ends
  report_prints (Found finding) ends = absurd ends

  pub report_silent : (e : Ending) → ReportEnds Is file before mid e → (status_of e ≡ 0 → ⊥) → (status_of e ≡ 4 → ⊥) → IsSilent before after
  report_silent Misused ends a b = absurd ends
  report_silent (Refused f) ends a b = still_silent before after behind ends.still
  report_silent FileFault ends a b = still_silent before after behind ends.still
  report_silent NoMemory ends a b = still_silent before after behind ends
  report_silent Printed ends a b = absurd (a refl)
  report_silent Unprinted ends a b = absurd (b refl)
  report_silent Served ends a b = absurd ends
  report_silent (Stopped stopped) ends a b = absurd ends
  report_silent (Unopened stopped) ends a b = absurd ends
  report_silent (Found finding) ends a b = absurd ends

  pub report_done : (e : Ending) (said said' : Option (List ℕ)) → ReportEnds Is file before mid e → Appends said said' (line_of file e) → status_of e ≡ 0
      → Prints Is file before after × Appends said said' []
  report_done Printed said said' ends wrote s = (printed_all ends.0, wrote)
  report_done Served said said' ends wrote s = absurd ends
  report_done (Stopped stopped) said said' ends wrote s = absurd ends
  report_done (Unopened stopped) said said' ends wrote s = absurd ends
  report_done (Found finding) said said' ends wrote s = absurd ends
  report_done e said said' ends wrote s = absurd (omega (arith, s))

  pub report_told : (e : Ending) (said said' : Option (List ℕ)) → ReportEnds Is file before mid e → Appends said said' (line_of file e) → status_of e ≡ 1
      → (f : ProgramFault) × Refuses (before.content file) f × Appends said said' (line_of file (Refused f))
  report_told (Refused f) said said' ends wrote s = (f, ends.refused, wrote)
  report_told (Stopped stopped) said said' ends wrote s = absurd ends
  report_told (Unopened stopped) said said' ends wrote s = absurd ends
  report_told (Found finding) said said' ends wrote s = absurd ends
  report_told e said said' ends wrote s = absurd (omega (arith, s))
