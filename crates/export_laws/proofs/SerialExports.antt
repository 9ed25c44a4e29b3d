-- What is exported of a sound history is read as its entries, of which none differs.
use Rattle.std.proofs.Common.{◌≡◌, ℕ, suc, ◌+◌, ◌*◌, true, ◌&&◌, List, [], ◌∷◌, ◌++◌, length, Some, None, unwrap_or, refl, sym, ap, ap₂, ◌∙◌, subst, append_assoc, append-nil, eq-eqb, if◌then◌else◌}
use Rattle.std.specs.Prelude.{bytes_eq}
use Rattle.std.specs.List.{AllByRecursion}
use Rattle.py_tree.specs.PlainProgram.{PlainProgram}
use Rattle.sf_value.specs.declared.Act.{Act}
use Rattle.sf_value.specs.declared.Entry.{Entry}
use Rattle.sf_value.specs.declared.Request.{Request}
use Rattle.sf_outside.specs.Gains.{joined}
use Rattle.program_meaning.specs.ClassTables.{Source}
use Rattle.program_meaning.specs.LightValues.{OutcomeIsLight}
use Rattle.program_meaning.specs.NothingGoesWrong.{IsKnownAccepted}
use Rattle.program_meaning.specs.RequestRun.{run}
use Rattle.program_meaning.specs.Serial.{no_state, serial_outcomes, Core, IsSound, acts_of, outcomes_of}
use Rattle.program_meaning.specs.World.{State}
use Rattle.program_meaning.proofs.LightRuns.{runs_are_light}
use Rattle.request_json.specs.ReplyLines.{reply_line}
use Rattle.request_json.specs.RequestTexts.{request_text, request_line}
use Rattle.request_json.specs.Actions.{Line, Ended, content_of, whole_from, rest_from, last_line, all_lines}
use Rattle.input_lines.proofs.CutLaws.{whole-nil, rest-nil, whole-line, rest-line}
use Rattle.run_audit.specs.declared.verdict.Verdict.TheVariants as verdict
use Rattle.run_audit.specs.Verdict.{Pair, Reading, Whole, bad_line, behind_entry, read_pair, read_lines, reply_text, differing, acts_in, difference, or_bad, verdict_on, verdict_of}
use Rattle.export_laws.specs.Exports.{lines_from, history_lines}
use Rattle.export_laws.specs.ExportLaws.{CanBeAudited}
use Rattle.export_laws.proofs.ExportedLines.{AreExported, all_exported}

-- ---- the lines of the file

abbrev lines_of : Source → ℕ → List Entry → List Line
lines_of src place [] = []
lines_of src place (e ∷ es) = Ended (request_text src e.request) ∷ Ended (reply_text e.request.id e.outcome place) ∷ lines_of src (suc place) es

text_from : Source → ℕ → List Entry → List ℕ
text_from src place es = joined (lines_from src place es)

two_lines : (src : Source) (place : ℕ) (e : Entry) (es : List Entry)
    → text_from src place (e ∷ es) ≡ request_text src e.request ++ 10 ∷ (reply_text e.request.id e.outcome place ++ 10 ∷ text_from src (suc place) es)
unfolding text_from joined request_line reply_line
two_lines src place e es =
    append_assoc (request_text src e.request) (10 ∷ []) _ ∙ ap (λ l. request_text src e.request ++ 10 ∷ l) (append_assoc (reply_text e.request.id e.outcome place) (10 ∷ []) _)

no_text : (src : Source) (place : ℕ) → text_from src place [] ≡ []
unfolding text_from joined
no_text src place = refl

wholes : (src : Source) (ids : List (List ℕ)) (place : ℕ) (es : List Entry) → AreExported src ids place es → whole_from [] (text_from src place es) ≡ lines_of src place es
unfolding AreExported
wholes src ids place [] are = ap (whole_from []) (no_text src place) ∙ whole-nil []
wholes src ids place (e ∷ es) are =
    let said = reply_text e.request.id e.outcome place in
    let behind = text_from src (suc place) es in
    ap (whole_from []) (two_lines src place e es) ∙ whole-line [] (request_text src e.request) (said ++ 10 ∷ behind) are.0.asks
    ∙ ap (λ ls. Ended (request_text src e.request) ∷ ls) (whole-line [] said behind are.0.says)
    ∙ ap (λ ls. Ended (request_text src e.request) ∷ Ended said ∷ ls) (wholes src (ids ++ e.request.id ∷ []) (suc place) es are.1)

rests : (src : Source) (ids : List (List ℕ)) (place : ℕ) (es : List Entry) → AreExported src ids place es → rest_from [] (text_from src place es) ≡ []
unfolding AreExported
rests src ids place [] are = ap (rest_from []) (no_text src place) ∙ rest-nil []
rests src ids place (e ∷ es) are =
    let said = reply_text e.request.id e.outcome place in
    let behind = text_from src (suc place) es in
    ap (rest_from []) (two_lines src place e es) ∙ rest-line [] (request_text src e.request) (said ++ 10 ∷ behind) are.0.asks
    ∙ rest-line [] said behind are.0.says ∙ rests src (ids ++ e.request.id ∷ []) (suc place) es are.1

-- ---- what is read of them

abbrev pairs_of : ℕ → List Entry → List Pair
pairs_of place [] = []
pairs_of place (e ∷ es) = record { asked = e.request; said = reply_text e.request.id e.outcome place } ∷ pairs_of (suc place) es

abbrev all_read : ℕ → List Entry → Reading
all_read place es = record { entries = pairs_of place es; bad = None }

reads : (src : Source) (ids : List (List ℕ)) (place : ℕ) (es : List Entry) → AreExported src ids place es → read_lines src Whole ids (lines_of src place es) ≡ all_read place es
unfolding AreExported read_lines
reads src ids place [] are = refl
reads src ids place (e ∷ es) are =
    let even : Line = Ended (reply_text e.request.id e.outcome place) in
    let others : Request → Reading = λ r. read_lines src Whole (ids ++ r.id ∷ []) (lines_of src (suc place) es) in
    ap (λ o. read_pair (length ids) o even others) are.0.asked
    ∙ ap (λ b. if b then behind_entry (record { asked = e.request; said = content_of even }) (others e.request) else bad_line (2 * length ids + 2)) are.0.short
    ∙ ap (behind_entry (record { asked = e.request; said = content_of even })) (reads src (ids ++ e.request.id ∷ []) (suc place) es are.1)
    ∙ ap (λ (l : List ℕ). behind_entry (record { asked = e.request; said = l }) (all_read (suc place) es)) are.0.kept

-- ---- that none differs

acts_are : (place : ℕ) (es : List Entry) → acts_in (pairs_of place es) ≡ acts_of es
acts_are place [] = refl
acts_are place (e ∷ es) = ap (λ acts. e.request.act ∷ acts) (acts_are (suc place) es)

count_is : (place : ℕ) (es : List Entry) → length (pairs_of place es) ≡ length es
count_is place [] = refl
count_is place (e ∷ es) = ap suc (count_is (suc place) es)

same_bytes : (xs : List ℕ) → bytes_eq xs xs ≡ true
same_bytes [] = refl
same_bytes (x ∷ xs) = ap (λ b. b && bytes_eq xs xs) (eq-eqb x x refl) ∙ same_bytes xs

none_differs : (place : ℕ) (es : List Entry) → differing place (pairs_of place es) (outcomes_of es) ≡ None
unfolding differing
none_differs place [] = refl
none_differs place (e ∷ es) =
    let said = reply_text e.request.id e.outcome place in
    ap (λ b. if b then differing (suc place) (pairs_of (suc place) es) (outcomes_of es) else Some (verdict.Differs place said said)) (same_bytes said) ∙ none_differs (suc place) es

sound_agrees : (src : Source) (core : Core) → IsSound src core → difference src (pairs_of 1 core.history) ≡ None
sound_agrees src core sound =
    ap (λ acts. differing 1 (pairs_of 1 core.history) (serial_outcomes src no_state acts)) (acts_are 1 core.history)
    ∙ ap (λ os. differing 1 (pairs_of 1 core.history) os) (sym sound.outcomes)
    ∙ none_differs 1 core.history

-- ---- the verdict

serial_light : (src : Source) (acts : List Act) (s : State) → AllByRecursion OutcomeIsLight (serial_outcomes src s acts)
unfolding serial_outcomes
serial_light src [] s = tt
serial_light src (asked ∷ acts) s = (runs_are_light src s asked, serial_light src acts (run src s asked).state)

pub exports_serial : (names : List (List ℕ)) (program : PlainProgram) → IsKnownAccepted names program → (core : Core) → CanBeAudited (record { program = program; names = names }) core
    → verdict_of (record { program = program; names = names }) (joined (history_lines (record { program = program; names = names }) core.history)) ≡ verdict.Serial (length core.history)
unfolding text_from verdict_of
exports_serial names program accepted core can =
    let src : Source = record { program = program; names = names } in
    let history = core.history in
    let sound : IsSound src core = can.sound.run in
    let light : AllByRecursion OutcomeIsLight (outcomes_of history) = subst (AllByRecursion OutcomeIsLight) (sym sound.outcomes) (serial_light src (acts_of history) no_state) in
    let are : AreExported src [] 1 history = all_exported names program accepted [] [] 1 history refl refl sound.ids can.few can.sound.requests can.real can.lines light in
    let cut : all_lines (text_from src 1 history) ≡ lines_of src 1 history = ap₂ (λ ls r. ls ++ last_line r) (wholes src [] 1 history are) (rests src [] 1 history are) ∙ append-nil (lines_of src 1 history) in
    ap (λ ls. verdict_on src (read_lines src Whole [] ls)) cut
    ∙ ap (verdict_on src) (reads src [] 1 history are)
    ∙ ap (λ d. unwrap_or (or_bad None d) (verdict.Serial (length (pairs_of 1 history)))) (sound_agrees src core sound)
    ∙ ap verdict.Serial (count_is 1 history)
