-- What a call promises that was asked to serve the input by the direct interpreter: what one does that serves it in batches of one request, without a store.
use Rattle.std.specs.Prelude.{ℕ, ◌≡◌, ◌≤◌, ◌⊎◌, false, List, [], ◌∷◌, length, take, None}
use Rattle.std.specs.declared.option.Option.{Option}
use Rattle.std.specs.Io.KnownBytes.{Consumes, IsAtEnd}
use Rattle.sf_outside.specs.DiskModel.{DiskFacts}
use Rattle.program_meaning.specs.ClassTables.{Source}
use Rattle.request_json.specs.Actions.{Line, whole_lines, all_lines}
use Rattle.engine.specs.Cores.{Core, empty_core}
use Rattle.batch_run.specs.RunViews.{rule_of, run_limits}
use Rattle.batch_run.specs.declared.running.RunSettings.{RunSettings}
use Rattle.batch_of_one.specs.BatchOfOne.{in_batches}
use Rattle.command_words.specs.Commands as words
use Rattle.stateflow_cli.specs.Devices.{Devices}
use Rattle.stateflow_cli.specs.Loading.{Holds, source_in}
use Rattle.stateflow_cli.specs.Endings.{settings_for, local_history}
use Rattle.stateflow_cli.specs.Answers.{TellsStatus}
use Rattle.stateflow_cli.specs.Causes.{HasItsStatus, IsFault, ServedRose, IsToldFor}
use Rattle.stateflow_cli.specs.Flushed.{IsFlushed}
use Rattle.stateflow_cli.specs.Session.{IsOneOf}
use Rattle.stateflow_cli.specs.SessionText.{IsSerial, PrintsText}
use Rattle.stateflow_cli.specs.RunPromise.{RunCause, IsUnbegun}

-- the words that would ask a run for the same: a batch is one request, and there is no store. On the others nothing of what is promised here depends.
abbrev pub at_once : words.RunSettings
at_once = record { batch = 1; partitions = 1; schedule = 0; store = None; every = 1; history = local_history; reorder = false; trace = false }

-- these are lines of what was taken: the whole ones of its first bytes, as many as may come; or, where the input had ended and no more than that came, all
abbrev pub AreLinesOf : ℕ → List ℕ → Option (List ℕ) → List Line → Type 0
AreLinesOf limit taken left lines = (lines ≡ whole_lines (take limit taken)) ⊎ ((length taken ≤ limit) × IsAtEnd left × (lines ≡ all_lines taken))

-- A session, from nothing committed on: the program of the file's text; what it took of the input, and the lines of that; how many of them were answered, or
-- were begun to be; and the core behind these.
pub record LocalSession (limit : ℕ) (file : List ℕ) (before after : Devices) (status : ℕ) : Type 0 where
  pub one_of : IsOneOf status (0 ∷ 3 ∷ 4 ∷ 8 ∷ 9 ∷ 10 ∷ [])
  pub holds : Holds (before.content file)
  pub taken : List ℕ
  pub consumed : Consumes before.input.left after.input.left taken
  pub lines : List Line
  pub of_taken : AreLinesOf limit taken after.input.left lines
  pub answered : ℕ
  pub last : Core
  pub reached : (in_batches (source_in (before.content file) holds) (rule_of (settings_for limit at_once)) (run_limits (settings_for limit at_once))
      (take answered lines)).core ≡ last

module _ {limit : ℕ} {file : List ℕ} {before after : Devices} {status : ℕ} (it : LocalSession limit file before after status) where
  abbrev pub source_of : Source
  source_of = source_in (before.content file) it.holds

  abbrev pub settings_of : RunSettings
  settings_of = settings_for limit at_once

  pub record LocalHeadline : Type 0 where
    -- the entries and the last state are those of running the requests one after another, and each line is that of its entry
    pub serial : IsSerial source_of settings_of empty_core it.last before.out.held after.out.held it.last.history (status ≡ 4)
    -- what was printed
    pub text : PrintsText source_of settings_of empty_core it.last before.out.held after.out.held status after.input.left it.taken
    -- nothing was chosen and told, and the error stream gained the line of the status alone
    pub untold : after.outside ≡ before.outside
    pub line : TellsStatus file before.err after.err status
    -- what was printed was handed on
    pub flushed : IsFlushed status after.out

pub record LocalPromise (limit : ℕ) (file : List ℕ) (before after : Devices) (was now : DiskFacts) (status : ℕ) : Type 0 where
  -- no session began, or there is one of which the headline holds
  pub did : IsUnbegun file at_once before after was now status ⊎ ((it : LocalSession limit file before after status) × LocalHeadline it)
  -- the status is 0, 1, 9 or 10 exactly where its cause is; no other tells a fault of a disk
  pub causes : HasItsStatus (RunCause limit file at_once before) (IsToldFor file None before) (IsFault (ServedRose file before after) ⊥ before after) status
