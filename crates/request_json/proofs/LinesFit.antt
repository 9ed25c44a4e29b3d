-- What a line of a session asks fits the program.
use Rattle.std.proofs.Common.{◌≡◌, ℕ, Bool, true, false, List, [], ◌∷◌, if◌then◌else◌, Ok, Err, refl, subst}
use Rattle.std.specs.declared.result.Result.{Result}
use Rattle.std.specs.Prelude.{nat_le}
use Rattle.py_tree.specs.ClassRules.{PlainTable, tables_of}
use Rattle.sf_value.specs.declared.Request.{Request}
use Rattle.program_meaning.specs.ClassTables.{Source}
use Rattle.request_history.specs.SoundHistory.{RequestFits}
use Rattle.request_json.specs.declared.fault.LineFault.{LineFault}
use Rattle.request_json.specs.RequestLines.{longest, reading_of}
use Rattle.request_json.specs.Actions.{Line, Refuse, LineTooLong, Ask, asking, used, content_of, action_of}
use Rattle.request_json.proofs.RequestFits.{reading_fits}

module _ (src : Source) where
  abbrev tables : List PlainTable
  tables = tables_of src.names src.program

  -- a line that asks something asks what fits
  pub ask_fits : (line : Line) (r : Request) → action_of src line ≡ Ask r → RequestFits tables r
  unfolding action_of
  ask_fits line r = by (nat_le _ longest) (content_of line)
    where
      asks : (text : List ℕ) (told : Result Request LineFault) → reading_of src text ≡ told → asking told ≡ Ask r → RequestFits tables r
      asks text (Err fault) told is = absurd cc
      asks text (Ok q) told is = let same : q ≡ r = cc in subst (RequestFits tables) same (reading_fits src.names src.program text q told)

      by : (short : Bool) (text : List ℕ) → (if short then used src text else Refuse LineTooLong) ≡ Ask r → RequestFits tables r
      by true [] is = absurd cc
      by true (b ∷ bs) is = asks (b ∷ bs) (reading_of src (b ∷ bs)) refl is
      by false text is = absurd cc
