-- What a line asks of the program fits it, and has a spelling in a store.
use Rattle.std.proofs.Common.{◌≡◌, ℕ, ◌-◌, ◌≤◌, Bool, true, false, nat_le, List, [], ◌∷◌, length, take, Ok, Err, if◌then◌else◌, refl, ap, ◌∙◌, arith}
use Rattle.std.proofs.lemmas.Bool.{leb-true}
use Rattle.std.proofs.lemmas.List.{length-take}
use Rattle.std.specs.Prelude.{slice_index, ◌==◌}
use Rattle.std.specs.declared.result.Result.{Result}
use Rattle.py_tree.specs.ClassRules.{PlainTable, tables_of}
use Rattle.py_tree.specs.CheckedViews.{checked_program, checked_names}
use Rattle.py_tree.specs.declared.checked.Checked.{Checked}
use Rattle.sf_value.specs.declared.Request.{Request}
use Rattle.program_meaning.specs.ClassTables.{Source}
use Rattle.program_meaning.specs.NothingGoesWrong.{IsKnownAccepted}
use Rattle.program_meaning.specs.Sources.{source_of}
use Rattle.quiet_methods.specs.MarksKeepWithin.{source}
use Rattle.block_step.specs.declared.compiled.Compiled.{Compiled}
use Rattle.block_step.specs.CompiledViews.{compiled_program, compiled_names}
use Rattle.request_json.specs.declared.fault.LineFault.{LineFault}
use Rattle.request_json.specs.RequestLines.{longest, reading_of}
use Rattle.request_json.specs.Actions.{Line, Ended, Left, Action, Skip, Refuse, Ask, LineTooLong, asking, used, without_cr, content_of, bytes_of, action_of}
use Rattle.request_json.proofs.LinesFit.{ask_fits}
use Rattle.request_json.proofs.RequestSpellings.{reading_spelt}
use Rattle.batch_replies.proofs.Vocabulary.{line_is_short}
use Rattle.line_answers.specs.LineViews.{ActionFits, ActionIsSpelt}

module _ (src : Source) where
  abbrev tables : List PlainTable
  tables = tables_of src.names src.program

  -- what a line asks fits the program
  pub line_fits : (line : Line) → ActionFits tables (action_of src line)
  line_fits line = by (action_of src line) refl
    where
      by : (action : Action) → action_of src line ≡ action → ActionFits tables action
      by Skip is = tt
      by (Refuse cause) is = tt
      by (Ask r) is = ask_fits src line r is

  -- ---- spellings

  no_longer : (bytes : List ℕ) → length (without_cr bytes) ≤ length bytes
  no_longer bytes = by (slice_index bytes (length bytes - 1) == 13)
    where
      by : (cr : Bool) → length (if cr then take (length bytes - 1) bytes else bytes) ≤ length bytes
      by true = let shorter = length-take (length bytes - 1) bytes in omega arith
      by false = omega arith

  content_no_longer : (line : Line) → length (content_of line) ≤ length (bytes_of line)
  content_no_longer (Ended bytes) = no_longer bytes
  content_no_longer (Left bytes) = omega arith

  module _ (accepted : IsKnownAccepted src.names src.program) where
    asking_spelt : (text : List ℕ) (told : Result Request LineFault) → length text ≤ longest → reading_of src text ≡ told → ActionIsSpelt (asking told)
    asking_spelt text (Ok r) short is = line_is_short text r short (reading_spelt src.names src.program accepted text r short is)
    asking_spelt text (Err fault) short is = tt

    used_spelt : (text : List ℕ) → length text ≤ longest → ActionIsSpelt (used src text)
    used_spelt [] short = tt
    used_spelt (b ∷ bs) short = asking_spelt (b ∷ bs) (reading_of src (b ∷ bs)) short refl

    -- what a line asks has a spelling
    pub line_spelt : (line : Line) → ActionIsSpelt (action_of src line)
    unfolding action_of
    line_spelt line = by (nat_le (length (bytes_of line)) longest) refl
      where
        by : (short : Bool) → nat_le (length (bytes_of line)) longest ≡ short → ActionIsSpelt (if short then used src (content_of line) else Refuse LineTooLong)
        by true is = used_spelt (content_of line) (let few = leb-true (length (bytes_of line)) longest is in let less = content_no_longer line in omega arith)
        by false is = tt

-- an accepted program is seen as that of the compiled one that holds it
pub same_source : (p : Checked) (c c' : Compiled) → checked_program p ≡ compiled_program c' → checked_names p ≡ compiled_names c' → c' ≡ c → source_of p ≡ source (compiled_names c) (compiled_program c)
same_source p c c' program names same =
    ap (source (checked_names p)) program ∙ ap (λ n. source n (compiled_program c')) names ∙ ap (λ k. source (compiled_names k) (compiled_program k)) same
