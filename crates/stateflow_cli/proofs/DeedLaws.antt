-- What is proved of each command that words may ask for: one record a command.
use Rattle.std.proofs.Common.{◌≡◌, ℕ, ◌≤◌, inl, inr, List, [], ◌∷◌, Some, None, refl, sym, subst}
use Rattle.std.proofs.KnownBytes.{Keeps-refl}
use Rattle.std.specs.Prelude.{Result, Ok, Err, IfOk}
use Rattle.std.specs.List.{AllByRecursion}
use Rattle.std.specs.declared.option.Option.{Option}
use Rattle.sf_outside.specs.DiskModel.{DiskFacts}
use Rattle.command_words.specs.WordReading.{Text}
use Rattle.command_words.specs.Commands.{Asked, Check, Compile, Local, Run, Gen, Export, Audit, GenSettings, Form, forms, AskOneOf, Ask, asked_by, Texts, texts_in}
use Rattle.command_words.specs.Readings.{ReadsOnly}
use Rattle.command_words.specs.declared.command.Command.{Command as Given}
use Rattle.command_words.specs.declared.command.WordsError.{WordsError}
use Rattle.stateflow_cli.specs.Devices.{Devices, Output, with_err, IsStill}
use Rattle.stateflow_cli.specs.CheckLine.{IsCheckLine}
use Rattle.stateflow_cli.specs.CompiledText.{IsCompiledText}
use Rattle.stateflow_cli.specs.Endings.{GenEnds, longest_input}
use Rattle.stateflow_cli.specs.StatusLines.{status_of, line_of}
use Rattle.stateflow_cli.specs.Telling.{Told}
use Rattle.stateflow_cli.specs.AuditEnds.{WantsMemory}
use Rattle.stateflow_cli.specs.ExportEnds as of_export
use Rattle.stateflow_cli.specs.Deeds.{deed, file_of, IsInRange, EndsOn, LeavesUnasked, DoesAsked}
use Rattle.stateflow_cli.specs.Promise.{Answers}
use Rattle.stateflow_cli.specs.declared.ending.Ending.{Ending}
use Rattle.stateflow_cli.specs.declared.ending.Ending.TheVariants.{Misused, NoMemory}
use Rattle.stateflow_cli.proofs.WordLaws.{file_in_range, run_in_range, gen_in_range, export_in_range, audit_in_range}
use Rattle.stateflow_cli.proofs.StoreEndings.{untouched}
use Rattle.stateflow_cli.proofs.AnswerLaws.{words_promise, report_promise, local_promise, run_promise, gen_promise, export_promise, audit_promise}

nothing_done : (devices : Devices) → IsStill devices devices
nothing_done devices = record { idle = record { left = Keeps-refl devices.input.left; held = Keeps-refl devices.out.held }; err = refl; outside = refl }

nothing_made : (w : GenSettings) (devices : Devices) → GenEnds w devices devices NoMemory
nothing_made w devices = record {
  unread = record { content = refl; file_faults = refl; input = refl };
  err = refl;
  sums = record { gives = inl refl; out = refl };
}

-- An ending of it that was told gives what is promised. What isn't touched for it isn't touched either as its ending is told. And it may end before
-- anything is done, where memory is wanted.
record IsDone (limit : ℕ) (asked : Asked) : Type 1 where
  does : (before after : Devices) (was now : DiskFacts) (status : ℕ) → Answers limit (Some asked) before after was now status → (deed limit asked).Spares before after
      → (deed limit asked).Does before after was now status
  spared_before : (before : Devices) (err : Output) → (deed limit asked).Spares before (with_err err before)
  spared_behind : (before after : Devices) (behind : Output) → (deed limit asked).Spares before (with_err behind after) → (deed limit asked).Spares before after
  unread : (before : Devices) (facts : DiskFacts) → (deed limit asked).Ends before before facts facts NoMemory

done : (limit : ℕ) (asked : Asked) → IsDone limit asked
done limit (Check file) = record {
  does = λ before after was now status a aside. report_promise limit before after was now status IsCheckLine file a.behind a.ending a.ends a.told aside;
  spared_before = λ before err. refl;
  spared_behind = λ before after behind aside. aside;
  unread = λ before facts. nothing_done before;
}
done limit (Compile file) = record {
  does = λ before after was now status a aside. report_promise limit before after was now status IsCompiledText file a.behind a.ending a.ends a.told aside;
  spared_before = λ before err. refl;
  spared_behind = λ before after behind aside. aside;
  unread = λ before facts. nothing_done before;
}
done limit (Local file) = record {
  does = λ before after was now status a aside. local_promise limit before after was now status file a;
  spared_before = λ before err. tt;
  spared_behind = λ before after behind aside. tt;
  unread = λ before facts. nothing_done before;
}
done limit (Run file s) = record {
  does = λ before after was now status a aside. run_promise limit before after was now status file s a;
  spared_before = λ before err. tt;
  spared_behind = λ before after behind aside. tt;
  unread = λ before facts. (nothing_done before, untouched before.disk facts);
}
done limit (Gen s) = record {
  does = λ before after was now status a aside. gen_promise limit before after was now status s a;
  spared_before = λ before err. tt;
  spared_behind = λ before after behind aside. tt;
  unread = λ before facts. nothing_made s before;
}
done limit (Export file dir) = record {
  does = λ before after was now status a aside. export_promise limit before after was now status file dir a;
  spared_before = λ before err. tt;
  spared_behind = λ before after behind aside. tt;
  unread = λ before facts. record { input = refl; err = refl; outside = refl; ways = of_export.WantsMemory refl (untouched before.disk facts) refl };
}
done limit (Audit file run) = record {
  does = λ before after was now status a aside. audit_promise limit before after was now status file run a;
  spared_before = λ before err. tt;
  spared_behind = λ before after behind aside. tt;
  unread = λ before facts. record { input = refl; err = refl; outside = refl; ways = WantsMemory refl refl };
}

-- ---- what words ask for is in range

abbrev GivesInRange : Form → Type 0
GivesInRange form = (texts : Texts) (a : Asked) → form.read texts ≡ Some a → IsInRange a

all_in_range : AllByRecursion GivesInRange forms
all_in_range = (
  file_in_range Check (λ file. tt),
  (file_in_range Compile (λ file. tt), (file_in_range Local (λ file. tt), (run_in_range, (gen_in_range, (export_in_range, tt))))),
)

one_in_range : (fs : List Form) → AllByRecursion GivesInRange fs → (name : Text) (words : List Text) (a : Asked) → AskOneOf fs name words a → IsInRange a
one_in_range [] all name words a h = absurd h
one_in_range (form ∷ more) all name words a (inl h) = all.0 (texts_in h.1.0) a h.1.3
one_in_range (form ∷ more) all name words a (inr h) = one_in_range more all.1 name words a h

asked_in_range : (words : List Text) (a : Asked) → Ask words a → IsInRange a
asked_in_range [] a h = absurd h
asked_in_range (name ∷ words) a (inl h) = one_in_range forms all_in_range name words a h
asked_in_range (name ∷ words) a (inr h) = audit_in_range words a h.1

pub command_in_range : (words : List Text) (r : Result Given WordsError) → ReadsOnly asked_by (Ask words) r → IfOk r (λ c. IsInRange (asked_by c))
command_in_range words (Ok c) h = asked_in_range words (asked_by c) h.0
command_in_range words (Err e) h = tt

-- ---- all commands

pub does_asked : (before after : Devices) (was now : DiskFacts) (status : ℕ) (asked : Option Asked) → Answers longest_input asked before after was now status
    → LeavesUnasked asked before after → DoesAsked longest_input asked before after was now status
does_asked before after was now status None a aside = words_promise longest_input before after was now status a aside
does_asked before after was now status (Some asked) a aside = (done longest_input asked).does before after was now status a aside

-- nothing but the error stream was touched
pub aside_before : (asked : Option Asked) (before : Devices) (err : Output) → LeavesUnasked asked before (with_err err before)
aside_before None before err = refl
aside_before (Some asked) before err = (done longest_input asked).spared_before before err

-- what isn't touched for a command isn't touched as its ending is told
pub aside_on : (asked : Option Asked) (command : Asked) (before after : Devices) (behind : Output) → asked ≡ Some command → LeavesUnasked (Some command) before (with_err behind after)
    → LeavesUnasked asked before after
aside_on asked command before after behind is aside =
    subst (λ o. LeavesUnasked o before after) (sym is) ((done longest_input command).spared_behind before after behind aside)

-- a command was asked for, and this came of it
module _ (limit : ℕ) (before after : Devices) (was now : DiskFacts) (behind : Output) (status : ℕ) where
  pub answers_on : (asked : Option Asked) (command : Asked) (e : Ending) → asked ≡ Some command → EndsOn limit command before (with_err behind after) was now e
      → Told (line_of (file_of command) e) (status_of e) behind.held after.err.held behind.faults after.err.faults status → behind.faults ≤ after.err.faults
      → Answers limit asked before after was now status
  answers_on asked command e is ends told later =
      subst (λ o. Answers limit o before after was now status) (sym is) (record { ending = e; behind = behind; ends = ends; told = told; later = later })

module _ (limit : ℕ) (before : Devices) (facts : DiskFacts) (err : Output) (status : ℕ) (later : before.err.faults ≤ err.faults) where
  abbrev told_after : Devices
  told_after = with_err err before

  -- no command was asked for, and that was told
  pub answers_misused : (asked : Option Asked) → asked ≡ None → Told (line_of [] Misused) (status_of Misused) before.err.held err.held before.err.faults err.faults status
      → Answers limit asked before told_after facts facts status
  answers_misused asked is told =
      subst (λ o. Answers limit o before told_after facts facts status) (sym is)
      (record { ending = Misused; behind = before.err; ends = (inl refl, nothing_done before); told = told; later = later })

  -- memory ran out before it was known what was asked for
  pub answers_unread : (asked : Option Asked) → Told (line_of [] NoMemory) (status_of NoMemory) before.err.held err.held before.err.faults err.faults status
      → Answers limit asked before told_after facts facts status
  answers_unread None told = record { ending = NoMemory; behind = before.err; ends = (inr refl, nothing_done before); told = told; later = later }
  answers_unread (Some asked) told = record { ending = NoMemory; behind = before.err; ends = (done limit asked).unread before facts; told = told; later = later }
