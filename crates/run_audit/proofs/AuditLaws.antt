-- What the lines that a reader has given come to, as lines of the file.
use Rattle.std.proofs.Common.{◌≡◌, ℕ, ◌+◌, ◌-◌, ◌<◌, ◌≤◌, ◌⊎◌, inl, inr, Bool, true, false, cond, not, nat_le, nat_lt, List, [], ◌∷◌, ◌++◌, length, take, drop, Option, Some, None, Ok, Err, refl, sym, ap, ◌∙◌, subst, arith, if◌then◌else◌, append_assoc, append-nil, take-append-drop, length-append}
use Rattle.std.specs.Prelude.{is_some, unwrap_or, ok_or, IfSome}
use Rattle.std.specs.declared.result.Result.{Result}
use Rattle.std.specs.Io.KnownBytes.{Consumes, IsAtEnd}
use Rattle.std.proofs.lemmas.Bool.Decides.{nat_tests}
use Rattle.std.proofs.lemmas.List.{take_all, length-take}
use lib.Seq.{take-append_seam, take-append-add}
use Rattle.sf_value.specs.declared.Request.{Request}
use Rattle.program_meaning.specs.ClassTables.{Source}
use Rattle.request_json.specs.RequestLines.{longest}
use Rattle.request_json.specs.Actions.{Line, Ended, Left, bytes_of, whole_from, rest_from, last_line, whole_lines, all_lines}
use Rattle.input_lines.specs.declared.lines.Lines.{Lines}
use Rattle.input_lines.specs.declared.lines.Next.{Next}
use Rattle.input_lines.specs.Reads.{IsStart, IsNew, JoinsAll, GoesPast, EndsLine}
use Rattle.input_lines.specs.Given.{Given, GivenOneMore}
use Rattle.input_lines.specs.FileReads.{left_from, GivesOfFile}
use Rattle.input_lines.proofs.CutLaws.{whole-append}
use Rattle.input_lines.proofs.FileLaws.{at_same}
use Rattle.input_lines.proofs.GivenLaws.{Given-new, Given-line, Given-all, HasLines}
use Rattle.run_audit.specs.declared.fault.AuditFault.{AuditFault}
use Rattle.run_audit.specs.declared.fault.AuditFault.TheVariants.{InputTooLong}
use Rattle.run_audit.specs.declared.verdict.Verdict.{Verdict}
use Rattle.run_audit.specs.declared.verdict.Verdict.TheVariants as verdict
use Rattle.run_audit.specs.Verdict.{last_entry, if_new, longest_reply, Extent, Front, Whole, read_lines, verdict_of}
use Rattle.run_audit.specs.Fronts.{most_behind, if_too_long, lines_of_front, decided}
use Rattle.run_audit.specs.Judging.{Judged, none_judged, most_of, read_behind, told_of, told_behind, count_behind, ending_of, Passes, Decides, Judges}
use Rattle.run_audit.specs.declared.judging.Judge.{Judge}
use Rattle.run_audit.specs.Standings.{judged_by, shown_line, Stands}
use Rattle.run_audit.specs.Audits.{Audits}
use Rattle.run_audit.proofs.ReadingLaws.{long_odd, long_even}
use Rattle.run_audit.proofs.FrontsDecide.{fronts_decide}

-- ---- which line comes next

abbrev pub is_odd : List Line → Bool
is_odd [] = false
is_odd (l ∷ ls) = not (is_odd ls)

one_more : (ls : List Line) (l : Line) → is_odd (ls ++ l ∷ []) ≡ not (is_odd ls)
one_more [] l = refl
one_more (x ∷ ls) l = ap not (one_more ls l)

not_not : (b : Bool) → not (not b) ≡ b
not_not true = refl
not_not false = refl

most_at : (ls : List Line) → most_behind ls ≡ cond (is_odd ls) longest_reply longest
most_at [] = refl
most_at (odd ∷ []) = refl
most_at (odd ∷ even ∷ ls) = most_at ls ∙ ap (λ b. cond b longest_reply longest) (sym (not_not (is_odd ls)))

-- ---- lines that passed

-- these lines, given by a reader, all passed
pub record Passed (src : Source) (given : List Line) (j : Judged) : Type 0 where
  pub told : (extent : Extent) (more : List Line) → told_behind src extent none_judged (given ++ more) ≡ told_behind src extent j more
  pub count : (extent : Extent) (more : List Line) → count_behind src extent none_judged (given ++ more) ≡ count_behind src extent j more
  pub turn : is_odd given ≡ is_some j.asked

pub Passed-none : (src : Source) → Passed src [] none_judged
Passed-none src = record { told = λ extent more. refl; count = λ extent more. refl; turn = refl }

pub Passed-line : (src : Source) (given : List Line) (old new : Judged) (line : Line) → Passed src given old → Passes src old new line → Passed src (given ++ line ∷ []) new
Passed-line src given old new line passed passes = record {
  told = λ extent more. ap (told_behind src extent none_judged) (append_assoc given (line ∷ []) more) ∙ passed.told extent (line ∷ more) ∙ passes.told extent more;
  count = λ extent more. ap (count_behind src extent none_judged) (append_assoc given (line ∷ []) more) ∙ passed.count extent (line ∷ more) ∙ passes.count extent more;
  turn = one_more given line ∙ ap not passed.turn ∙ sym passes.turns;
}

most_now : (src : Source) (given : List Line) (j : Judged) → Passed src given j → most_behind given ≡ most_of j.asked
most_now src given j passed = most_at given ∙ ap (λ b. cond b longest_reply longest) passed.turn

-- ---- the start of a line tells as much as the line

-- two lines that are too long are read alike
pub long_alike : (src : Source) (j : Judged) (k l : Line) → longest_reply < length (bytes_of k) → longest_reply < length (bytes_of l)
    → (extent : Extent) (more : List Line) → read_behind src extent j.ids j.asked (k ∷ more) ≡ read_behind src extent j.ids j.asked (l ∷ more)
long_alike src j k l long_k long_l extent more = by j.asked
  where
    by : (asked : Option Request) → read_behind src extent j.ids asked (k ∷ more) ≡ read_behind src extent j.ids asked (l ∷ more)
    by None = long_odd src extent j.ids k more (omega (arith, long_k)) ∙ sym (long_odd src extent j.ids l more (omega (arith, long_l)))
    by (Some r) = long_even (length j.ids) (Some r) k l (λ q. read_lines src extent (j.ids ++ q.id ∷ []) more) (λ q. read_lines src extent (j.ids ++ q.id ∷ []) more) long_k long_l

shown_bytes : (ended : Bool) (bytes : List ℕ) → bytes_of (shown_line ended bytes) ≡ bytes
shown_bytes true bytes = refl
shown_bytes false bytes = refl

-- a start is the whole line, or both are too long
record BothLong (kept line : List ℕ) : Type 0 where
  kept_long : longest_reply < length kept
  line_long : longest_reply < length line

whole_or_long : (kept line : List ℕ) → IsStart longest_reply kept line → (kept ≡ line) ⊎ BothLong kept line
whole_or_long kept line start = by (nat_le (length line) longest_reply) refl
  where
    by : (b : Bool) → nat_le (length line) longest_reply ≡ b → (kept ≡ line) ⊎ BothLong kept line
    by true is = let short : length line ≤ longest_reply = grind (arith, nat_tests) in inl (start ∙ take_all (longest_reply + 1) line (omega (arith, short)))
    by false is =
        let long : longest_reply < length line = grind (arith, nat_tests) in
        inr (record { kept_long = omega (arith, ap length start, length-take (longest_reply + 1) line, long); line_long = long })

Judges-alike : (src : Source) (old new : Judged) (k l : Line) (E : Type 0) (result : Result (Option Verdict) E)
    → ((extent : Extent) (more : List Line) → read_behind src extent old.ids old.asked (k ∷ more) ≡ read_behind src extent old.ids old.asked (l ∷ more))
    → Judges src old new k result → Judges src old new l result
Judges-alike src old new k l E (Ok None) alike passes = record {
  told = λ extent more. ap (told_of src (length old.ids) old.state) (sym (alike extent more)) ∙ passes.told extent more;
  count = λ extent more. ap (λ reading. length old.ids + length reading.entries) (sym (alike extent more)) ∙ passes.count extent more;
  turns = passes.turns;
}
Judges-alike src old new k l E (Ok (Some v)) alike decides = λ extent more. ap (told_of src (length old.ids) old.state) (sym (alike extent more)) ∙ decides extent more
Judges-alike src old new k l E (Err e) alike judges = tt

pub Judges-whole : (src : Source) (old new : Judged) (ended : Bool) (kept line : List ℕ) (E : Type 0) (result : Result (Option Verdict) E)
    → IsStart longest_reply kept line → Judges src old new (shown_line ended kept) result → Judges src old new (shown_line ended line) result
Judges-whole src old new ended kept line E result start judges = by (whole_or_long kept line start)
  where
    by : (kept ≡ line) ⊎ BothLong kept line → Judges src old new (shown_line ended line) result
    by (inl same) = subst (λ bytes. Judges src old new (shown_line ended bytes) result) same judges
    by (inr long) =
        Judges-alike src old new (shown_line ended kept) (shown_line ended line) E result
        (long_alike src old (shown_line ended kept) (shown_line ended line) (omega (arith, long.kept_long, ap length (shown_bytes ended kept)))
        (omega (arith, long.line_long, ap length (shown_bytes ended line)))) judges

last_some : (part : List ℕ) → 0 < length part → last_line part ≡ Left part ∷ []
last_some [] some = absurd (omega (arith, some))
last_some (b ∷ part) some = refl

pub ending_whole : (src : Source) (j : Judged) (kept part : List ℕ) → IsStart longest_reply kept part → ending_of src j (last_line kept) ≡ ending_of src j (last_line part)
ending_whole src j kept part start = by (whole_or_long kept part start)
  where
    by : (kept ≡ part) ⊎ BothLong kept part → ending_of src j (last_line kept) ≡ ending_of src j (last_line part)
    by (inl same) = ap (λ bytes. ending_of src j (last_line bytes)) same
    by (inr long) =
        ap (ending_of src j) (last_some kept (omega (arith, long.kept_long)))
        ∙ ap (λ reading. unwrap_or (told_of src (length j.ids) j.state reading) (verdict.Serial (length j.ids + length reading.entries)))
        (long_alike src j (Left kept) (Left part) long.kept_long long.line_long Whole [])
        ∙ sym (ap (ending_of src j) (last_some part (omega (arith, long.line_long))))

if_long : (most : ℕ) (part : List ℕ) → most < length part → if_too_long most part ≡ Left part ∷ []
if_long most part long =
    let test : nat_lt most (length part) ≡ true = grind (arith, nat_tests) in
    ap (λ b. if b then Left part ∷ [] else []) test

most_is_less : (asked : Option Request) → most_of asked ≤ longest_reply
most_is_less None = omega arith
most_is_less (Some r) = omega arith

pub cut_whole : (src : Source) (j : Judged) (kept part : List ℕ) → IsStart longest_reply kept part
    → told_behind src Front j (if_too_long (most_of j.asked) kept) ≡ told_behind src Front j (if_too_long (most_of j.asked) part)
cut_whole src j kept part start = by (whole_or_long kept part start)
  where
    by : (kept ≡ part) ⊎ BothLong kept part → told_behind src Front j (if_too_long (most_of j.asked) kept) ≡ told_behind src Front j (if_too_long (most_of j.asked) part)
    by (inl same) = ap (λ bytes. told_behind src Front j (if_too_long (most_of j.asked) bytes)) same
    by (inr long) =
        ap (told_behind src Front j) (if_long (most_of j.asked) kept (omega (arith, long.kept_long, most_is_less j.asked)))
        ∙ ap (told_of src (length j.ids) j.state) (long_alike src j (Left kept) (Left part) long.kept_long long.line_long Front [])
        ∙ sym (ap (told_behind src Front j) (if_long (most_of j.asked) part (omega (arith, long.line_long, most_is_less j.asked))))

-- ---- the verdict

-- a front that decides is enough
by_front : (src : Source) (limit : ℕ) (all : List ℕ) (v : Verdict) → decided src (take limit all) ≡ Some v → Audits src limit all (Ok v)
by_front src limit all v is = (ap (verdict_of src) (sym (take-append-drop limit all)) ∙ fronts_decide src (take limit all) (drop limit all) v is, inr is)

-- what is decided by the whole lines of a front's beginning
decided_behind : (src : Source) (front : List ℕ) → decided src front ≡ told_behind src Front none_judged (lines_of_front front)
unfolding decided
decided_behind src front = refl

decided_early : (src : Source) (used more : List ℕ) (given : List Line) (j : Judged) (line : Line) (v : Verdict) → whole_lines used ≡ given ++ line ∷ []
    → Passed src given j → Decides src j line v → decided src (used ++ more) ≡ Some v
decided_early src used more given j line v whole passed decides =
    let behind : List Line = whole_from (rest_from [] used) more in
    let part : List Line = if_too_long (most_behind (whole_lines (used ++ more))) (rest_from [] (used ++ more)) in
    let lines : lines_of_front (used ++ more) ≡ given ++ (line ∷ (behind ++ part)) =
    ap (λ ls. ls ++ part) (whole-append used more [] ∙ ap (λ ls. ls ++ behind) whole)
    ∙ append_assoc (given ++ line ∷ []) behind part ∙ append_assoc given (line ∷ []) (behind ++ part) in
    decided_behind src (used ++ more) ∙ ap (told_behind src Front none_judged) lines ∙ passed.told Front (line ∷ (behind ++ part)) ∙ decides Front (behind ++ part)

take_front : (limit : ℕ) (used rest : List ℕ) → length used ≤ limit → take limit (used ++ rest) ≡ used ++ take (limit - length used) rest
take_front limit used rest within = ap (λ n. take n (used ++ rest)) (omega (arith, within)) ∙ take-append-add used rest (limit - length used)

-- by the lines of a whole file
verdict_by_lines : (src : Source) (all : List ℕ) → verdict_of src all ≡ ending_of src none_judged (all_lines all)
unfolding verdict_of
verdict_by_lines src all =
    let count : ℕ = length (read_lines src Whole [] (all_lines all)).entries in
    let same : count ≡ 0 + count = omega arith in
    ap (λ n. unwrap_or (told_behind src Whole none_judged (all_lines all)) (verdict.Serial n)) same

-- ---- where it stops

early : (src : Source) (limit : ℕ) (content left : Option (List ℕ)) (lines : Lines) (given : List Line) (j : Judged) (line : List ℕ) (v : Verdict)
    → Given limit longest_reply content left lines (given ++ Ended line ∷ []) → Passed src given j → Decides src j (Ended line) v
    → IfSome content (λ all. Audits src limit all (Ok v))
early src limit None left lines given j line v g passed decides = tt
early src limit (Some all) None lines given j line v g passed decides = absurd g.consumed
early src limit (Some all) (Some others) lines given j line v g passed decides =
    let front : take limit all ≡ g.used ++ take (limit - length g.used) (lines.piece ++ others) =
    ap (take limit) (g.consumed ∙ append_assoc g.used lines.piece others) ∙ take_front limit g.used (lines.piece ++ others) (omega (arith, g.counted)) in
    by_front src limit all v (ap (decided src) front ∙ decided_early src g.used (take (limit - length g.used) (lines.piece ++ others)) given j (Ended line) v g.whole passed decides)

by_end : (src : Source) (limit : ℕ) (content left : Option (List ℕ)) (given : List Line) (j : Judged) (kept : List ℕ) (room : ℕ) (v : Verdict)
    → HasLines limit longest_reply room content left given kept → IsAtEnd left → Passed src given j → ending_of src j (last_line kept) ≡ v
    → IfSome content (λ all. Audits src limit all (Ok v))
by_end src limit None left given j kept room v h end passed ending = tt
by_end src limit (Some all) None given j kept room v h end passed ending = absurd h.consumed
by_end src limit (Some all) (Some others) given j kept room v h end passed ending =
    let part : List ℕ = rest_from [] h.taken in
    let same : all ≡ h.taken = h.consumed ∙ ap (λ l. h.taken ++ l) end ∙ append-nil h.taken in
    let lines : all_lines all ≡ given ++ last_line part = ap all_lines same ∙ ap (λ ls. ls ++ last_line part) h.whole in
    let behind : ending_of src none_judged (given ++ last_line part) ≡ ending_of src j (last_line part) =
    ap (λ told. unwrap_or told (verdict.Serial (count_behind src Whole none_judged (given ++ last_line part)))) (passed.told Whole (last_line part))
    ∙ ap (λ n. unwrap_or (told_behind src Whole j (last_line part)) (verdict.Serial n)) (passed.count Whole (last_line part)) in (
      verdict_by_lines src all ∙ ap (ending_of src none_judged) lines ∙ behind ∙ sym (ending_whole src j kept part h.start) ∙ ending,
      inl (omega (arith, ap length same, h.counted)),
    )

by_cut : (src : Source) (limit : ℕ) (content before left : Option (List ℕ)) (given : List Line) (j : Judged) (kept : List ℕ) (room next : ℕ) (o : Option Verdict)
    → HasLines limit longest_reply room content before given kept → room ≡ 0 → Consumes before left (next ∷ []) → Passed src given j
    → told_behind src Front j (if_too_long (most_of j.asked) kept) ≡ o → IfSome content (λ all. Audits src limit all (ok_or o InputTooLong))
by_cut src limit None before left given j kept room next o h full beyond passed told = tt
by_cut src limit (Some all) None left given j kept room next o h full beyond passed told = absurd h.consumed
by_cut src limit (Some all) (Some others) None given j kept room next o h full beyond passed told = absurd beyond
by_cut src limit (Some all) (Some others) (Some more) given j kept room next o h full beyond passed told =
    let part : List ℕ = rest_from [] h.taken in
    let size : length h.taken ≡ limit = omega (arith, h.counted, full) in
    let front : take limit all ≡ h.taken = ap (take limit) h.consumed ∙ ap (λ n. take n (h.taken ++ others)) (sym size) ∙ take-append_seam h.taken others in
    let lines : lines_of_front h.taken ≡ given ++ if_too_long (most_of j.asked) part =
    ap (λ ls. ls ++ if_too_long (most_behind ls) part) h.whole ∙ ap (λ n. given ++ if_too_long n part) (most_now src given j passed) in
    let is : decided src (take limit all) ≡ o =
    ap (decided src) front ∙ decided_behind src h.taken ∙ ap (told_behind src Front none_judged) lines ∙ passed.told Front (if_too_long (most_of j.asked) part)
    ∙ sym (cut_whole src j kept part h.start) ∙ told in
    by o is
  where
    by : (o : Option Verdict) → decided src (take limit all) ≡ o → Audits src limit all (ok_or o InputTooLong)
    by (Some v) is = by_front src limit all v is
    by None is = (omega (arith, h.counted, full, ap length h.consumed, length-append h.taken others, ap length beyond), is)

-- ---- where a reader of a file stands

pub record Audited (src : Source) (limit : ℕ) (content : Option (List ℕ)) (lines : Lines) (j : Judged) : Type 0 where
  pub given : List Line
  pub read : Given limit longest_reply content (left_from content (limit - lines.room)) lines given
  pub passed : Passed src given j

from_start : (content : Option (List ℕ)) → left_from content 0 ≡ content
from_start None = refl
from_start (Some all) = refl

pub Audited-new : (src : Source) (limit : ℕ) (content : Option (List ℕ)) (lines : Lines) (j : Judged) → IsNew limit longest_reply lines → j ≡ none_judged
    → Audited src limit content lines j
Audited-new src limit content lines j new none = record {
  given = [];
  read = at_same (λ l. Given limit longest_reply content l lines []) content 0 (limit - lines.room) (omega (arith, new.room))
      (subst (λ l. Given limit longest_reply content l lines []) (sym (from_start content)) (Given-new content new));
  passed = subst (Passed src []) (sym none) (Passed-none src);
}

module _ (src : Source) (limit : ℕ) (content : Option (List ℕ)) (old new : Lines) (j : Judged) (a : Audited src limit content old j) where
  module _ (e : EndsLine old new (left_from content (limit - old.room)) (left_from content (limit - new.room + 0))) where
    one : GivenOneMore limit longest_reply content (left_from content (limit - new.room + 0)) new a.given
    one = Given-line a.read e

    pub Audited-line : (j' : Judged) (E : Type 0) → Judges src j j' (shown_line true new.line) {E = E} (Ok None) → Audited src limit content new j'
    Audited-line j' E judges = record {
      given = a.given ++ Ended one.line ∷ [];
      read = at_same (λ l. Given limit longest_reply content l new (a.given ++ Ended one.line ∷ [])) content (limit - new.room + 0) (limit - new.room) (omega arith) one.now;
      passed = Passed-line src a.given j j' (Ended one.line) a.passed (Judges-whole src j j' true new.line one.line E (Ok None) one.start judges);
    }

    pub Audits-early : (j' : Judged) (E : Type 0) (v : Verdict) → Judges src j j' (shown_line true new.line) {E = E} (Ok (Some v)) → IfSome content (λ all. Audits src limit all (Ok v))
    Audits-early j' E v judges = early src limit content (left_from content (limit - new.room + 0)) new a.given j one.line v one.now a.passed
        (Judges-whole src j j' true new.line one.line E (Ok (Some v)) one.start judges)

  pub Audits-end : (v : Verdict) → JoinsAll old new (left_from content (limit - old.room)) (left_from content (limit - new.room + 0)) × IsAtEnd (left_from content (limit - new.room + 0))
      → ending_of src j (last_line new.line) ≡ v → IfSome content (λ all. Audits src limit all (Ok v))
  Audits-end v joined ending = by_end src limit content (left_from content (limit - new.room + 0)) a.given j new.line new.room v (Given-all a.read joined.0) joined.1 a.passed ending

  pub Audits-past : (o : Option Verdict) → GoesPast old new (left_from content (limit - old.room)) (left_from content (limit - new.room + 1))
      → told_behind src Front j (if_too_long (most_of j.asked) new.line) ≡ o → IfSome content (λ all. Audits src limit all (ok_or o InputTooLong))
  Audits-past o past told = by_cut src limit content past.before (left_from content (limit - new.room + 1)) a.given j new.line new.room past.next o (Given-all a.read past.all) past.full past.beyond a.passed told

pub nothing_owed : (src : Source) (limit : ℕ) (content : Option (List ℕ)) (fault : AuditFault) → ((all : List ℕ) → Audits src limit all (Err fault)) → IfSome content (λ all. Audits src limit all (Err fault))
nothing_owed src limit None fault each = tt
nothing_owed src limit (Some all) fault each = each all

-- before the first line there is a place for each entry
pub Stands-new : (j : Judge) → judged_by j ≡ none_judged → Stands j
Stands-new j none = record {
  few = subst (λ (q : Judged). length q.ids ≤ last_entry) (sym none) (omega arith);
  new = subst (λ (q : Judged). IfSome q.asked (λ r. if_new q.ids r ≡ Some r)) (sym none) tt;
}

-- a count that has not fallen, and not since
pub later_still : (a b c : ℕ) → a ≤ b → b ≤ c → a ≤ c
later_still a b c p q = omega (arith, p, q)

-- what a reader gives, of a file by what it has
pub gives_so : (E : Type 0) (limit : ℕ) (told content : Option (List ℕ)) (old new : Lines) (r s : Next) → told ≡ content → r ≡ s
    → GivesOfFile limit told old new {E = E} (Ok r) → GivesOfFile limit content old new {E = E} (Ok s)
gives_so E limit told content old new r s same is gives =
    subst (λ c. GivesOfFile limit c old new {E = E} (Ok s)) same (subst (λ n. GivesOfFile limit told old new {E = E} (Ok n)) is gives)
