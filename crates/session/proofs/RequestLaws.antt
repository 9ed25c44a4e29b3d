-- What the lines of a session ask fits the program.
use Rattle.std.proofs.Common.{ℕ, List, [], ◌∷◌, ◌++◌}
use Rattle.py_tree.specs.ClassRules.{PlainTable, tables_of}
use Rattle.sf_value.specs.declared.Entry.{Entry}
use Rattle.program_meaning.specs.ClassTables.{Source}
use Rattle.request_json.specs.Actions.{Line}
use Rattle.request_history.specs.SoundHistory.{RequestsFit}
use Rattle.request_json.proofs.LinesFit.{ask_fits}
use Rattle.session.specs.SerialOutput.{Printed, Nothing, Refused, Reply, Again, Fits}

module _ (src : Source) where
  abbrev tables : List PlainTable
  tables = tables_of src.names src.program

  -- the requests that lines add to a history fit
  pub requests_fit : (most : ℕ) (before : List Entry) (lines : List Line) (printed : List Printed) (added : List Entry)
      → Fits src most before lines printed added → RequestsFit tables added
  requests_fit most before [] [] [] told = tt
  requests_fit most before [] [] (e ∷ added) told = absurd told
  requests_fit most before [] (p ∷ printed) added told = absurd told
  requests_fit most before (line ∷ lines) [] [] told = tt
  requests_fit most before (line ∷ lines) [] (e ∷ added) told = absurd told
  requests_fit most before (line ∷ lines) (Nothing ∷ printed) added told = requests_fit most before lines printed added told.1
  requests_fit most before (line ∷ lines) (Refused number what ∷ printed) added told = requests_fit most before lines printed added told.1
  requests_fit most before (line ∷ lines) (Again place ∷ printed) added told = requests_fit most before lines printed added told.1
  requests_fit most before (line ∷ lines) (Reply place ∷ printed) [] told = absurd told
  requests_fit most before (line ∷ lines) (Reply place ∷ printed) (e ∷ added) told =
      (ask_fits src line e.request told.0, requests_fit most (before ++ e ∷ []) lines printed added told.1)
