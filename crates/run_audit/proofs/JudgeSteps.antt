-- What a judge does with one line, by the laws of judging.
use Rattle.std.proofs.Common.{◌≡◌, ℕ, suc, ◌+◌, ◌*◌, ◌<◌, ◌≤◌, Bool, true, false, true≢false, cond, not, nat_le, nat_lt, List, [], ◌∷◌, ◌++◌, length, Option, Some, None, refl, sym, ap, ◌∙◌, subst, arith, if◌then◌else◌}
use Rattle.std.specs.Prelude.{◌||◌, bytes_eq, is_some, unwrap_or, IfSome}
use Rattle.std.specs.List.{list_any}
use Rattle.std.specs.Result.{result_ok}
use Rattle.std.proofs.lemmas.Bool.Decides.{nat_tests}
use Rattle.std.proofs.lemmas.Option.{none-some}
use Rattle.sf_value.specs.declared.Request.{Request}
use Rattle.program_meaning.specs.ClassTables.{Source}
use Rattle.program_meaning.specs.World.{State}
use Rattle.program_meaning.specs.RequestRun.{run}
use Rattle.request_json.specs.Arguments.{◌>>?◌}
use Rattle.request_json.specs.RequestLines.{longest, reading_of}
use Rattle.request_json.specs.Actions.{Line, Left, bytes_of, content_of}
use Rattle.run_audit.specs.declared.verdict.Verdict.{Verdict}
use Rattle.run_audit.specs.declared.verdict.Verdict.TheVariants as verdict
use Rattle.run_audit.specs.Verdict.{last_entry, if_new, asked_by, is_reply, reply_text, Extent, Front, Whole, none_bad, read_lines, differing}
use Rattle.run_audit.specs.Fronts.{if_too_long}
use Rattle.run_audit.specs.Judging.{Judged, behind_odd, next_number, most_of, read_behind, told_of, told_behind, count_behind, ending_of, Passes, Decides}
use Rattle.run_audit.proofs.ReadingLaws.{asks_nothing}
use Rattle.run_audit.proofs.JudgingLaws.{told_bad, Decides-odd, Passes-odd, Decides-long, Decides-differs, Passes-even}

-- ---- an odd line

-- what a line asks is new
same_request : (q r : Request) (b : Bool) → (if b then None else Some q) ≡ Some r → q ≡ r
same_request q r true is = absurd (none-some r is)
same_request q r false is = ap (λ o. unwrap_or o q) is

asks_new : (ids : List (List ℕ)) (r : Request) (b : Bool) (o : Option Request) → (if b then o >>? if_new ids else None) ≡ Some r → if_new ids r ≡ Some r
asks_new ids r false o is = absurd (none-some r is)
asks_new ids r true None is = absurd (none-some r is)
asks_new ids r true (Some q) is =
    subst (λ x. if_new ids x ≡ Some r) (same_request q r (list_any (bytes_eq q.id) ids || nat_le last_entry (length ids)) is) is

pub new_where_asked : (src : Source) (ids : List (List ℕ)) (odd : Line) (asked : Option Request) → asked ≡ asked_by src ids odd
    → IfSome asked (λ r. if_new ids r ≡ Some r)
new_where_asked src ids odd None is = tt
new_where_asked src ids odd (Some r) is =
    asks_new ids r (nat_le (length (bytes_of odd)) longest) (result_ok (reading_of src (content_of odd))) (sym is)

abbrev open_of : Judged → Judged
open_of j = record { ids = j.ids; state = j.state; asked = None }

at_open : (P : Judged → Type 0) (j : Judged) → j.asked ≡ None → P (open_of j) → P j
at_open P j none = subst (λ asked. P (record { ids = j.ids; state = j.state; asked = asked })) (sym none)

pub ask_decides : (src : Source) (j : Judged) (odd : Line) (asked : Option Request) (b : Bool) → j.asked ≡ None → asked ≡ asked_by src j.ids odd → is_some asked ≡ not b → b ≡ true
    → Decides src j odd (verdict.BadRun (2 * length j.ids + 1))
ask_decides src j odd None b none is bad true_is =
    at_open (λ q. Decides src q odd (verdict.BadRun (2 * length j.ids + 1))) j none (Decides-odd src j.ids j.state odd (sym is))
ask_decides src j odd (Some r) b none is bad true_is = absurd (true≢false (bad ∙ ap not true_is))

pub ask_passes : (src : Source) (j : Judged) (odd : Line) (asked : Option Request) (b : Bool) → j.asked ≡ None → asked ≡ asked_by src j.ids odd → is_some asked ≡ not b → b ≡ false
    → Passes src j (record { ids = j.ids; state = j.state; asked = asked }) odd
ask_passes src j odd None b none is bad false_is = absurd (true≢false (sym (bad ∙ ap not false_is)))
ask_passes src j odd (Some r) b none is bad false_is =
    at_open (λ q. Passes src q (behind_odd j.ids j.state r) odd) j none (Passes-odd src j.ids j.state r odd (sym is))

-- ---- an even line

module _ (src : Source) (ids : List (List ℕ)) (s : State) (r : Request) (line : Line) (wanted found : List ℕ) (b : Bool) where
  pub hear_differs : (place : ℕ) → is_reply line ≡ true → place ≡ suc (length ids) → wanted ≡ reply_text r.id (run src s r.act).outcome (suc (length ids))
      → found ≡ content_of line → b ≡ bytes_eq found wanted → b ≡ false → Decides src (behind_odd ids s r) line (verdict.Differs place wanted found)
  hear_differs place short at reply content test differs =
      let same : bytes_eq (content_of line) (reply_text r.id (run src s r.act).outcome (suc (length ids))) ≡ false =
      sym (ap (λ f. bytes_eq f wanted) content ∙ ap (bytes_eq (content_of line)) reply) ∙ sym test ∙ differs in
      λ extent more. Decides-differs src ids s r line short same extent more
      ∙ sym (ap (λ n. Some (verdict.Differs n wanted found)) at ∙ ap (λ w. Some (verdict.Differs (suc (length ids)) w found)) reply
      ∙ ap (λ f. Some (verdict.Differs (suc (length ids)) (reply_text r.id (run src s r.act).outcome (suc (length ids))) f)) content)

  pub hear_passes : (ids' : List (List ℕ)) (s' : State) (asked' : Option Request) → is_reply line ≡ true
      → wanted ≡ reply_text r.id (run src s r.act).outcome (suc (length ids)) → found ≡ content_of line → b ≡ bytes_eq found wanted → b ≡ true
      → ids' ≡ ids ++ r.id ∷ [] → s' ≡ (run src s r.act).state → asked' ≡ None
      → Passes src (behind_odd ids s r) (record { ids = ids'; state = s'; asked = asked' }) line
  hear_passes ids' s' asked' short reply content test is at_ids at_state at_asked =
      let same : bytes_eq (content_of line) (reply_text r.id (run src s r.act).outcome (suc (length ids))) ≡ true =
      sym (ap (λ f. bytes_eq f wanted) content ∙ ap (bytes_eq (content_of line)) reply) ∙ sym test ∙ is in
      subst (λ i. Passes src (behind_odd ids s r) (record { ids = i; state = s'; asked = asked' }) line) (sym at_ids)
      (subst (λ t. Passes src (behind_odd ids s r) (record { ids = ids ++ r.id ∷ []; state = t; asked = asked' }) line) (sym at_state)
      (subst (λ a. Passes src (behind_odd ids s r) (record { ids = ids ++ r.id ∷ []; state = (run src s r.act).state; asked = a }) line) (sym at_asked)
      (Passes-even src ids s r line short same)))

-- ---- behind the last line

told_none_bad : (src : Source) (n : ℕ) (s : State) → told_of src n s none_bad ≡ None
unfolding differing
told_none_bad src n s = refl

read_none : (src : Source) (extent : Extent) (ids : List (List ℕ)) → read_lines src extent ids [] ≡ none_bad
unfolding read_lines
read_none src extent ids = refl

abbrev ends_with : Judged → Option Verdict
ends_with j = cond (is_some j.asked) (Some (verdict.BadRun (2 * length j.ids + 2))) None

-- what is told of a file that ends, and of a front
pub told_at_end : (src : Source) (j : Judged) (b : Bool) → is_some j.asked ≡ b
    → told_behind src Whole j [] ≡ cond b (Some (verdict.BadRun (2 * length j.ids + 2))) None
told_at_end src j b is = by j.asked is
  where
    by : (asked : Option Request) → is_some asked ≡ b
        → told_of src (length j.ids) j.state (read_behind src Whole j.ids asked []) ≡ cond b (Some (verdict.BadRun (2 * length j.ids + 2))) None
    by None is = ap (told_of src (length j.ids) j.state) (read_none src Whole j.ids) ∙ told_none_bad src (length j.ids) j.state
        ∙ ap (λ b. cond b (Some (verdict.BadRun (2 * length j.ids + 2))) None) is
    by (Some r) is = told_bad src (length j.ids) j.state (2 * length j.ids + 2) ∙ ap (λ b. cond b (Some (verdict.BadRun (2 * length j.ids + 2))) None) is

pub told_at_front : (src : Source) (j : Judged) → told_behind src Front j [] ≡ None
told_at_front src j = by j.asked
  where
    by : (asked : Option Request) → told_of src (length j.ids) j.state (read_behind src Front j.ids asked []) ≡ None
    by None = ap (told_of src (length j.ids) j.state) (read_none src Front j.ids) ∙ told_none_bad src (length j.ids) j.state
    by (Some r) = told_none_bad src (length j.ids) j.state

count_at_end : (src : Source) (j : Judged) → j.asked ≡ None → count_behind src Whole j [] ≡ length j.ids
count_at_end src j none =
    ap (λ asked. length j.ids + length (read_behind src Whole j.ids asked []).entries) none
    ∙ ap (λ reading. length j.ids + length reading.entries) (read_none src Whole j.ids)
    ∙ omega arith

is_none_of : {A : Type 0} (o : Option A) → is_some o ≡ false → o ≡ None
is_none_of None is = refl
is_none_of (Some x) is = absurd (true≢false is)

pub ends_missing : (src : Source) (j : Judged) → is_some j.asked ≡ true → ending_of src j [] ≡ verdict.BadRun (next_number j)
ends_missing src j is =
    ap (λ told. unwrap_or told (verdict.Serial (count_behind src Whole j []))) (told_at_end src j true is)
    ∙ ap (λ b. verdict.BadRun (cond b (2 * length j.ids + 2) (2 * length j.ids + 1))) (sym is)

pub ends_serial : (src : Source) (j : Judged) → is_some j.asked ≡ false → ending_of src j [] ≡ verdict.Serial (length j.ids)
ends_serial src j is =
    ap (λ told. unwrap_or told (verdict.Serial (count_behind src Whole j []))) (told_at_end src j false is)
    ∙ ap verdict.Serial (count_at_end src j (is_none_of j.asked is))

-- ---- a part of a line that is too long

pub short_part : (src : Source) (j : Judged) (part : List ℕ) → length part ≤ most_of j.asked → told_behind src Front j (if_too_long (most_of j.asked) part) ≡ None
short_part src j part short =
    let test : nat_lt (most_of j.asked) (length part) ≡ false = grind (arith, nat_tests) in
    ap (λ b. told_behind src Front j (if b then Left part ∷ [] else [])) test ∙ told_at_front src j

-- whatever the state, a line that is too long is bad
pub Decides-past : (src : Source) (j : Judged) (line : Line) → most_of j.asked < length (bytes_of line) → Decides src j line (verdict.BadRun (next_number j))
Decides-past src j line long = by j.asked long
  where
    by : (asked : Option Request) → most_of asked < length (bytes_of line)
        → Decides src (record { ids = j.ids; state = j.state; asked = asked }) line (verdict.BadRun (next_number (record { ids = j.ids; state = j.state; asked = asked })))
    by None long = Decides-odd src j.ids j.state line (asks_nothing src j.ids line long)
    by (Some r) long = Decides-long src j.ids j.state r line (grind (arith, nat_tests))

pub long_part : (src : Source) (j : Judged) (part : List ℕ) → most_of j.asked < length part
    → told_behind src Front j (if_too_long (most_of j.asked) part) ≡ Some (verdict.BadRun (next_number j))
long_part src j part long =
    let test : nat_lt (most_of j.asked) (length part) ≡ true = grind (arith, nat_tests) in
    ap (λ b. told_behind src Front j (if b then Left part ∷ [] else [])) test ∙ Decides-past src j (Left part) long Front []
