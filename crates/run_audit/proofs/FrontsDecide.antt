-- A front that decides decides for each file that begins so.
use Rattle.std.proofs.Common.{◌≡◌, ℕ, suc, ◌<◌, ◌≤◌, Bool, true, false, ◌==◌, nat_lt, List, [], ◌∷◌, ◌++◌, length, Option, Some, None, option_map, unwrap_or, refl, sym, ap, ◌∙◌, subst, arith, append_assoc, append-nil, if◌then◌else◌, length-append}
use Rattle.std.specs.Prelude.{bytes_eq}
use Rattle.std.proofs.lemmas.Bool.Decides.{nat_tests}
use Rattle.std.proofs.lemmas.Option.{none-some}
use Rattle.program_meaning.specs.ClassTables.{Source}
use Rattle.program_meaning.specs.World.{State}
use Rattle.program_meaning.specs.RequestRun.{run}
use Rattle.program_meaning.specs.Serial.{no_state, serial_outcomes}
use Rattle.request_json.specs.Actions.{Line, Ended, Left, bytes_of, whole_from, rest_from, last_line, whole_lines, all_lines}
use Rattle.input_lines.proofs.CutLaws.{whole-append, rest-append}
use Rattle.run_audit.specs.declared.verdict.Verdict.{Verdict}
use Rattle.run_audit.specs.declared.verdict.Verdict.TheVariants as verdict
use Rattle.run_audit.specs.Verdict.{Pair, Reading, Whole, Front, read_lines, reply_text, differing, acts_in, difference, or_bad, told, verdict_of}
use Rattle.run_audit.specs.Fronts.{most_behind, lines_of_front, decided}
use Rattle.run_audit.proofs.ReadingLaws.{Begins, Same, More, lines_begin, long_begins}

-- ---- the lines of a file, by its front

-- the lines that come where a part of one stands before
abbrev lines_behind : List ℕ → List ℕ → List Line
lines_behind part bytes = whole_from part bytes ++ last_line (rest_from part bytes)

cut_behind : (front more : List ℕ) → all_lines (front ++ more) ≡ whole_lines front ++ lines_behind (rest_from [] front) more
cut_behind front more =
    ap (λ ls. ls ++ last_line (rest_from [] (front ++ more))) (whole-append front more [])
    ∙ append_assoc (whole_lines front) (whole_from (rest_from [] front) more) (last_line (rest_from [] (front ++ more)))
    ∙ ap (λ r. whole_lines front ++ (whole_from (rest_from [] front) more ++ last_line r)) (rest-append front more [])

-- a part with a byte at least begins a line of at least as many
record FirstLine (least : ℕ) (ls : List Line) : Type 0 where
  line : Line
  others : List Line
  is : ls ≡ line ∷ others
  long : least ≤ length (bytes_of line)

first_behind : (least : ℕ) (part bytes : List ℕ) → 0 < length part → least ≤ length part → FirstLine least (lines_behind part bytes)
unfolding whole_from rest_from
first_behind least [] [] some le = absurd (omega arith)
first_behind least (x ∷ part) [] some le = record { line = Left (x ∷ part); others = []; is = refl; long = le }
first_behind least part (b ∷ bytes) some le = by (b == 10) (first_behind least (part ++ b ∷ []) bytes (omega (arith, some, length-append part (b ∷ []))) (omega (arith, le, length-append part (b ∷ []))))
  where
    by : (ends : Bool) → FirstLine least (lines_behind (part ++ b ∷ []) bytes)
        → FirstLine least ((if ends then Ended part ∷ whole_from [] bytes else whole_from (part ++ b ∷ []) bytes) ++ last_line (if ends then rest_from [] bytes else rest_from (part ++ b ∷ []) bytes))
    by true later = record { line = Ended part; others = lines_behind [] bytes; is = refl; long = le }
    by false later = later

-- ---- judging

-- an entry that differs does so whatever stands behind it
differs_still : (src : Source) (s : State) (place : ℕ) (ps qs : List Pair) (v : Verdict) → differing place ps (serial_outcomes src s (acts_in ps)) ≡ Some v
    → differing place (ps ++ qs) (serial_outcomes src s (acts_in (ps ++ qs))) ≡ Some v
unfolding differing serial_outcomes
differs_still src s place [] qs v is = absurd (none-some v is)
differs_still src s place (p ∷ ps) qs v is = by (bytes_eq p.said wanted) (differs_still src (run src s p.asked.act).state (suc place) ps qs v) is
  where
    wanted : List ℕ
    wanted = reply_text p.asked.id (run src s p.asked.act).outcome place

    by : (same : Bool) → (differing (suc place) ps (serial_outcomes src (run src s p.asked.act).state (acts_in ps)) ≡ Some v
        → differing (suc place) (ps ++ qs) (serial_outcomes src (run src s p.asked.act).state (acts_in (ps ++ qs))) ≡ Some v)
        → (if same then differing (suc place) ps (serial_outcomes src (run src s p.asked.act).state (acts_in ps)) else Some (verdict.Differs place wanted p.said)) ≡ Some v
        → (if same then differing (suc place) (ps ++ qs) (serial_outcomes src (run src s p.asked.act).state (acts_in (ps ++ qs))) else Some (verdict.Differs place wanted p.said)) ≡ Some v
    by true later is = later is
    by false later is = is

-- where nothing is bad, what is told is an entry that differs
told_of_none : (bad : Option ℕ) (d : Option Verdict) (v : Verdict) → bad ≡ None → or_bad bad d ≡ Some v → d ≡ Some v
told_of_none bad (Some w) v none is = is
told_of_none bad None v none is = absurd (none-some v (sym (ap (option_map verdict.BadRun) none) ∙ is))

told_still : (src : Source) (front full : Reading) (v : Verdict) → Begins front full → told src front ≡ Some v → told src full ≡ Some v
told_still src front full v (Same same) is = ap (told src) (sym same) ∙ is
told_still src front full v (More others none more) is =
    let differs = told_of_none front.bad (difference src front.entries) v none is in
    ap (λ ps. or_bad full.bad (difference src ps)) more ∙ ap (or_bad full.bad) (differs_still src no_state 1 front.entries others v differs)

-- ---- fronts

module _ (src : Source) (front more : List ℕ) where
  abbrev whole : List Line
  whole = whole_lines front

  abbrev part : List ℕ
  part = rest_from [] front

  by_part : (long : Bool) → nat_lt (most_behind whole) (length part) ≡ long
      → Begins (read_lines src Front [] (whole ++ (if long then Left part ∷ [] else []))) (read_lines src Whole [] (whole ++ lines_behind part more))
  by_part true is =
      let less : most_behind whole < length part = grind (arith, nat_tests) in
      let first = first_behind (suc (most_behind whole)) part more (omega (arith, less)) (omega (arith, less)) in
      subst (λ ls. Begins (read_lines src Front [] (whole ++ Left part ∷ [])) (read_lines src Whole [] (whole ++ ls))) (sym first.is)
      (long_begins src [] whole (Left part) first.line first.others less (omega (arith, first.long)))
  by_part false is =
      subst (λ ls. Begins (read_lines src Front [] ls) (read_lines src Whole [] (whole ++ lines_behind part more))) (sym (append-nil whole)) (lines_begin src [] whole (lines_behind part more))

  pub front_begins : Begins (read_lines src Front [] (lines_of_front front)) (read_lines src Whole [] (all_lines (front ++ more)))
  front_begins =
      subst (λ ls. Begins (read_lines src Front [] (lines_of_front front)) (read_lines src Whole [] ls)) (sym (cut_behind front more))
      (by_part (nat_lt (most_behind whole) (length part)) refl)

pub fronts_decide : (src : Source) (front more : List ℕ) (v : Verdict) → decided src front ≡ Some v → verdict_of src (front ++ more) ≡ v
unfolding decided verdict_of
fronts_decide src front more v is =
    let full = read_lines src Whole [] (all_lines (front ++ more)) in
    ap (λ o. unwrap_or o (verdict.Serial (length full.entries))) (told_still src _ full v (front_begins src front more) is)
