-- The lines of an entry that is exported are two lines of a file, and are read as this entry.
use Rattle.std.proofs.Common.{◌≡◌, ◌≤◌, ◌<◌, ℕ, suc, ◌+◌, ◌-◌, ◌||◌, true, false, List, [], ◌∷◌, ◌++◌, length, take, map, Some, None, refl, sym, ap, ◌∙◌, subst, arith, append_assoc, length-append, if◌then◌else◌}
use Rattle.std.specs.Prelude.{nat_le, bytes_eq, slice_index}
use Rattle.std.specs.List.{All, AllByRecursion, list_any}
use Rattle.std.specs.Result.{result_ok}
use Rattle.std.proofs.lemmas.Bool.{ne_eqb}
use Rattle.std.proofs.lemmas.Bool.Decides.{nat_tests}
use Rattle.std.proofs.lemmas.List.{map-append}
use Rattle.py_tree.specs.PlainProgram.{PlainProgram}
use Rattle.py_tree.specs.ClassRules.{PlainTable, tables_of}
use Rattle.sf_value.specs.declared.Entry.{Entry}
use Rattle.sf_value.specs.declared.Request.{Request}
use Rattle.byte_sizes.specs.Spelt.{IsRealRequest, IsRealEntry}
use Rattle.program_meaning.specs.ClassTables.{Source}
use Rattle.program_meaning.specs.LightValues.{OutcomeIsLight}
use Rattle.program_meaning.specs.NothingGoesWrong.{IsKnownAccepted}
use Rattle.program_meaning.specs.Serial.{is_committed, ids_differ, outcomes_of}
use Rattle.request_history.specs.SoundHistory.{RequestFits, RequestsFit}
use Rattle.request_history.proofs.IdLaws.{new_among}
use Rattle.json_texts.specs.TextLaws.{IsVisible}
use Rattle.json_texts.proofs.TextBytes.{text_visible}
use Rattle.request_json.specs.Arguments.{◌>>?◌}
use Rattle.request_json.specs.RequestLines.{longest, reading_of}
use Rattle.request_json.specs.RequestTexts.{request_data, request_text}
use Rattle.request_json.specs.ReplyLines.{reply_data}
use Rattle.request_json.specs.Actions.{Ended, without_cr, content_of}
use Rattle.request_json.proofs.IntLaws.{le_test}
use Rattle.request_json.proofs.PlainReplies.{reply_plain}
use Rattle.request_json.proofs.RequestsBack.{request_plain, request_back}
use Rattle.input_lines.specs.CutLaws.{HasNoEnd}
use Rattle.run_audit.specs.Verdict.{longest_reply, last_entry, if_new, asked_by, is_reply, reply_text}
use Rattle.export_laws.specs.ExportLaws.{IsAskedInLine}
use Rattle.export_laws.proofs.ShortReplies.{reply_short}

-- ---- a text without control characters

visible_unended : (text : List ℕ) → All IsVisible text → HasNoEnd text
visible_unended text visible k d less same = omega (arith, visible k d less)

-- it doesn't end with a CR
visible_kept : (text : List ℕ) → All IsVisible text → without_cr text ≡ text
visible_kept [] visible = refl
visible_kept (x ∷ xs) visible =
    let line = x ∷ xs in
    let last : 32 ≤ slice_index line (length line - 1) = visible (length line - 1) 0 (omega arith) in
    ap (λ b. if b then take (length line - 1) line else line) (ne_eqb (slice_index line (length line - 1)) 13 (λ same. omega (arith, last)))

-- ---- ids

abbrev pub ids_in : List Entry → List (List ℕ)
ids_in = map (λ e. e.request.id)

-- an id is one of these where it is committed
committed_among : (id : List ℕ) (es : List Entry) → list_any (bytes_eq id) (ids_in es) ≡ is_committed es id
committed_among id [] = refl
committed_among id (e ∷ es) = ap (λ b. bytes_eq id e.request.id || b) (committed_among id es)

ids_count : (es : List Entry) → length (ids_in es) ≡ length es
ids_count [] = refl
ids_count (e ∷ es) = ap suc (ids_count es)

not_full : (n : ℕ) → n < last_entry → nat_le last_entry n ≡ false
not_full n less = grind (arith, nat_tests)

new_is : (ids : List (List ℕ)) (r : Request) → list_any (bytes_eq r.id) ids ≡ false → length ids < last_entry → if_new ids r ≡ Some r
new_is ids r other less =
    ap (λ b. if b || nat_le last_entry (length ids) then None else Some r) other ∙ ap (λ b. if b then None else Some r) (not_full (length ids) less)

-- ---- the lines of an entry

-- They are lines, the first asks the entry's request where these are the ids of the earlier entries, and the second is its reply.
pub record IsExported (src : Source) (ids : List (List ℕ)) (place : ℕ) (e : Entry) : Type 0 where
  pub asks : HasNoEnd (request_text src e.request)
  pub says : HasNoEnd (reply_text e.request.id e.outcome place)
  pub asked : asked_by src ids (Ended (request_text src e.request)) ≡ Some e.request
  pub short : is_reply (Ended (reply_text e.request.id e.outcome place)) ≡ true
  pub kept : content_of (Ended (reply_text e.request.id e.outcome place)) ≡ reply_text e.request.id e.outcome place

unfoldable pub AreExported : Source → List (List ℕ) → ℕ → List Entry → Type 0
AreExported src ids place [] = Unit {0}
AreExported src ids place (e ∷ es) = IsExported src ids place e × AreExported src (ids ++ e.request.id ∷ []) (suc place) es

module _ (names : List (List ℕ)) (program : PlainProgram) (accepted : IsKnownAccepted names program) where
  abbrev src : Source
  src = record { program = program; names = names }

  abbrev tables : List PlainTable
  tables = tables_of names program

  request_visible : (r : Request) → RequestFits tables r → IsRealRequest r → All IsVisible (request_text src r)
  unfolding request_text
  request_visible r fits real = text_visible (request_data src r) (request_plain names program accepted r fits real)

  asked_again : (ids : List (List ℕ)) (r : Request) → RequestFits tables r → IsRealRequest r → length (request_text src r) ≤ longest → if_new ids r ≡ Some r
      → asked_by src ids (Ended (request_text src r)) ≡ Some r
  asked_again ids r fits real short new =
      ap (λ b. if b then result_ok (reading_of src (content_of (Ended (request_text src r)))) >>? if_new ids else None) (le_test (length (request_text src r)) longest short)
      ∙ ap (λ l. result_ok (reading_of src l) >>? if_new ids) (visible_kept (request_text src r) (request_visible r fits real))
      ∙ ap (λ o. result_ok o >>? if_new ids) (request_back names program accepted r fits real)
      ∙ new

  one_exported : (ids : List (List ℕ)) (place : ℕ) (e : Entry) → RequestFits tables e.request → IsRealEntry e → IsAskedInLine src e → OutcomeIsLight e.outcome → place ≤ last_entry
      → if_new ids e.request ≡ Some e.request → IsExported src ids place e
  one_exported ids place e fits real short light few new =
      let said : All IsVisible (reply_text e.request.id e.outcome place) = text_visible (reply_data e.request.id e.outcome place) (reply_plain e.request.id e.outcome place real.0.0 real.1 (omega (arith, few))) in
      record {
        asks = visible_unended (request_text src e.request) (request_visible e.request fits real.0);
        says = visible_unended (reply_text e.request.id e.outcome place) said;
        asked = asked_again ids e.request fits real.0 short new;
        short = le_test (length (reply_text e.request.id e.outcome place)) longest_reply (reply_short e.request.id e.outcome place fits.id light real.1 few);
        kept = visible_kept (reply_text e.request.id e.outcome place) said;
      }

  -- so are those of each entry, where these stand before it
  pub all_exported : (before : List Entry) (ids : List (List ℕ)) (place : ℕ) (es : List Entry) → ids ≡ ids_in before → place ≡ suc (length before)
      → ids_differ (before ++ es) ≡ true → length (before ++ es) ≤ last_entry → RequestsFit tables es → AllByRecursion IsRealEntry es → AllByRecursion (IsAskedInLine src) es
      → AllByRecursion OutcomeIsLight (outcomes_of es) → AreExported src ids place es
  unfolding AreExported
  all_exported before ids place [] same at differ few fits real short light = tt
  all_exported before ids place (e ∷ es) same at differ few fits real short light =
      let there : length before + suc (length es) ≤ last_entry = omega (arith, few, length-append before (e ∷ es)) in
      let other : list_any (bytes_eq e.request.id) ids ≡ false = ap (list_any (bytes_eq e.request.id)) same ∙ committed_among e.request.id before ∙ new_among before e es differ in
      let less : length ids < last_entry = omega (arith, there, ap length same, ids_count before) in
      let next : before ++ e ∷ es ≡ (before ++ e ∷ []) ++ es = sym (append_assoc before (e ∷ []) es) in (
        one_exported ids place e fits.0 real.0 short.0 light.0 (omega (arith, there, at)) (new_is ids e.request other less),
        all_exported (before ++ e ∷ []) (ids ++ e.request.id ∷ []) (suc place) es (ap (λ l. l ++ e.request.id ∷ []) same ∙ sym (map-append (λ (e : Entry). e.request.id) before (e ∷ [])))
            (omega (arith, at, length-append before (e ∷ []))) (subst (λ l. ids_differ l ≡ true) next differ) (subst (λ l. length l ≤ last_entry) next few) fits.1 real.1 short.1 light.1,
      )
