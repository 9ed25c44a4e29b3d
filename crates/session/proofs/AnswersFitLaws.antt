-- In a session over an accepted program nothing goes wrong.
use Rattle.std.proofs.Common.{◌≡◌, ℕ, List, [], ◌∷◌, ◌++◌, drop, get_or, sym, ap, subst}
use Rattle.py_tree.specs.PlainProgram.{PlainProgram}
use Rattle.py_tree.specs.ClassRules.{PlainTable, tables_of}
use Rattle.program_meaning.specs.NothingGoesWrong.{IsKnownAccepted}
use Rattle.sf_value.specs.declared.Entry.{Entry}
use Rattle.program_meaning.specs.ClassTables.{Source}
use Rattle.program_meaning.specs.World.{State}
use Rattle.program_meaning.specs.RequestRun.{run}
use Rattle.program_meaning.specs.Serial.{no_state, serial_outcomes, serial_state, acts_of, outcomes_of}
use Rattle.program_meaning.specs.Fits.{StateFits, OutcomeFits}
use Rattle.program_meaning.proofs.Soundness.{first_fits, runs_fit}
use Rattle.request_json.specs.Actions.{Line}
use Rattle.session.specs.SerialOutput.{Printed, Nothing, Refused, Reply, Again, Fits}
use Rattle.session.specs.AnswersFit.{AnswersFit}
use Rattle.request_history.specs.SoundHistory.{EntriesFit}
use Rattle.request_json.proofs.LinesFit.{ask_fits}

module _ (names : List (List ℕ)) (program : PlainProgram) where
  abbrev src : Source
  src = record { program = program; names = names }

  abbrev tables : List PlainTable
  tables = tables_of names program

  module _ (accepted : IsKnownAccepted names program) where
    entries_fit : (most : ℕ) (before : List Entry) (lines : List Line) (printed : List Printed) (added : List Entry) (s : State) → StateFits tables s
        → Fits src most before lines printed added → outcomes_of added ≡ serial_outcomes src s (acts_of added)
        → EntriesFit tables added × StateFits tables (serial_state src s (acts_of added))
    unfolding serial_outcomes serial_state
    entries_fit most before [] [] [] s fit told same = (tt, fit)
    entries_fit most before [] [] (e ∷ added) s fit told same = absurd told
    entries_fit most before [] (p ∷ printed) added s fit told same = absurd told
    entries_fit most before (line ∷ lines) [] [] s fit told same = (tt, fit)
    entries_fit most before (line ∷ lines) [] (e ∷ added) s fit told same = absurd told
    entries_fit most before (line ∷ lines) (Nothing ∷ printed) added s fit told same = entries_fit most before lines printed added s fit told.1 same
    entries_fit most before (line ∷ lines) (Refused number what ∷ printed) added s fit told same = entries_fit most before lines printed added s fit told.1 same
    entries_fit most before (line ∷ lines) (Again place ∷ printed) added s fit told same = entries_fit most before lines printed added s fit told.1 same
    entries_fit most before (line ∷ lines) (Reply place ∷ printed) [] s fit told same = absurd told
    entries_fit most before (line ∷ lines) (Reply place ∷ printed) (e ∷ added) s fit told same =
        let asked = ask_fits src line e.request told.0 in
        let ran = runs_fit names program accepted s e.request.act fit asked.act in
        let here : e.outcome ≡ (run src s e.request.act).outcome = ap (λ os. get_or os 0 e.outcome) same in
        let rest = entries_fit most (before ++ e ∷ []) lines printed added (run src s e.request.act).state ran.0 told.1 (ap (drop 1) same) in
        ((asked, subst (OutcomeFits tables e.request.act) (sym here) ran.1, rest.0), rest.1)

pub answers_fit : AnswersFit
answers_fit names program accepted most lines serial =
    let fit =
    entries_fit names program accepted most [] lines serial.printed serial.core.history no_state
    (first_fits names program) serial.fits serial.sound.run.outcomes in
    (fit.0, subst (StateFits (tables_of names program)) (sym serial.sound.run.state) fit.1)
