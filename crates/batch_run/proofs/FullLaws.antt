-- When a session comes to a full history, told by its input.
use Rattle.std.proofs.Common.{◌≡◌, ℕ, ◌+◌, ◌-◌, ◌≤◌, ◌<◌, Bool, true, false, nat_le, ◌⊎◌, inl, inr, List, [], ◌∷◌, ◌++◌, length, take, Some, None, refl, ap, ◌∙◌, append-nil, append_assoc, arith}
use Rattle.std.specs.Prelude.{IfSome, if◌then◌else◌}
use Rattle.std.proofs.lemmas.List.{take_at, take-append-le, length-append}
use Rattle.std.proofs.lemmas.Bool.Decides.{nat_tests}
use Rattle.std.specs.declared.option.Option.{Option}
use Rattle.std.specs.Io.KnownBytes.{Consumes, IsAtEnd}
use Rattle.sf_outside.proofs.Fronts.{take_into}
use Rattle.program_meaning.specs.ClassTables.{Source}
use Rattle.request_json.specs.Actions.{Line, whole_lines, whole_from, rest_from, last_line}
use Rattle.input_lines.proofs.CutLaws.{whole-append}
use Rattle.engine.specs.Cores.{Core}
use Rattle.batch_output.specs.BatchOutput.{begun, Standing, after, step}
use Rattle.batch_output.proofs.SessionLaws.{stopped, stopped_at_end}
use Rattle.batch_run.specs.RunViews.{run_limits, rule_of}
use Rattle.batch_run.specs.RunTexts.{stands_behind, stands_at_end, fills_history, AnswersAll, AnswersFirst, FillsAtLine, FillsAtEnd}
use Rattle.batch_run.specs.declared.running.RunSettings.{RunSettings}

le_true : (m n : ℕ) → m ≤ n → nat_le m n ≡ true
le_true m n h = grind (arith, nat_tests, h)

le_false : (m n : ℕ) → n < m → nat_le m n ≡ false
le_false m n h = grind (arith, nat_tests, h)

either : (b x y : Bool) → x ≡ true → y ≡ true → (if b then x else y) ≡ true
either true x y here there = here
either false x y here there = there

take_past : (xs ys : List ℕ) (n : ℕ) → length xs ≤ n → take n (xs ++ ys) ≡ xs ++ take (n - length xs) ys
take_past xs ys n h = let e : n ≡ length xs + (n - length xs) = omega (arith, h) in ap (λ k. take k (xs ++ ys)) e ∙ take_into xs ys (n - length xs)

-- an input that ended was taken whole, and else its first bytes were taken
pub all_taken : (all : List ℕ) (left' : Option (List ℕ)) (taken : List ℕ) → Consumes (Some all) left' taken → IsAtEnd left' → all ≡ taken
all_taken all None taken c e = absurd c
all_taken all (Some rest) taken c e = c ∙ ap (λ l. taken ++ l) e ∙ append-nil taken

some_taken : (all : List ℕ) (left' : Option (List ℕ)) (taken : List ℕ) → Consumes (Some all) left' taken → (rest : List ℕ) × (all ≡ taken ++ rest)
some_taken all None taken c = absurd c
some_taken all (Some rest) taken c = (rest, c)

-- whether a history is full behind the whole lines of bytes, and behind all of them and their end: where it is full behind some lines, it is
-- behind more of them, and at the end
module _ (limit : ℕ) (behind at_end : List ℕ → Bool) (later : (taken more : List ℕ) → behind taken ≡ true → behind (taken ++ more) ≡ true) (to_end : (all : List ℕ) → behind all ≡ true → at_end all ≡ true) where
  abbrev fills : List ℕ → Bool
  fills all = if nat_le (length all) limit then at_end all else behind (take limit all)

  fills_short : (all : List ℕ) → length all ≤ limit → fills all ≡ at_end all
  fills_short all short = ap (λ b. if b then at_end all else behind (take limit all)) (le_true (length all) limit short)

  fills_long : (all : List ℕ) → limit < length all → fills all ≡ behind (take limit all)
  fills_long all long = ap (λ b. if b then at_end all else behind (take limit all)) (le_false (length all) limit long)

  pub fits_whole : (left left' : Option (List ℕ)) (taken : List ℕ) → Consumes left left' taken → length taken ≤ limit → IsAtEnd left' → at_end taken ≡ false
      → IfSome left (λ all. (length all ≤ limit) × (fills all ≡ false))
  fits_whole None left' taken c w e goes = tt
  fits_whole (Some all) left' taken c w e goes =
      let is = all_taken all left' taken c e in
      let short : length all ≤ limit = omega (arith, ap length is, w) in
      (short, fills_short all short ∙ ap at_end is ∙ goes)

  pub exceeds : (left left' : Option (List ℕ)) (taken : List ℕ) (next : ℕ) → Consumes left left' (taken ++ next ∷ []) → length taken ≡ limit → behind taken ≡ false
      → IfSome left (λ all. (limit < length all) × (fills all ≡ false))
  exceeds None left' taken next c w goes = tt
  exceeds (Some all) left' taken next c w goes =
      let r = some_taken all left' (taken ++ next ∷ []) c in
      let is : all ≡ taken ++ ((next ∷ []) ++ r.0) = r.1 ∙ append_assoc taken (next ∷ []) r.0 in
      let long : limit < length all = omega (arith, ap length is, length-append taken ((next ∷ []) ++ r.0), length-append (next ∷ []) r.0, w) in
      (long, fills_long all long ∙ ap behind (ap (take limit) is ∙ take_at taken ((next ∷ []) ++ r.0) limit w) ∙ goes)

  -- where exactly one byte more was taken
  pub exceeds_by : (left left' : Option (List ℕ)) (taken : List ℕ) → Consumes left left' taken → length taken ≡ limit + 1 → behind (take limit taken) ≡ false
      → IfSome left (λ all. (limit < length all) × (fills all ≡ false))
  exceeds_by None left' taken c w goes = tt
  exceeds_by (Some all) left' taken c w goes =
      let r = some_taken all left' taken c in
      let long : limit < length all = omega (arith, ap length r.1, length-append taken r.0, w) in
      (long, fills_long all long ∙ ap behind (ap (take limit) r.1 ∙ take-append-le limit taken r.0 (omega (arith, w))) ∙ goes)

  pub full_at_line : (left left' : Option (List ℕ)) (taken : List ℕ) → Consumes left left' taken → length taken ≤ limit → behind taken ≡ true → IfSome left (λ all. fills all ≡ true)
  full_at_line None left' taken c w full = tt
  full_at_line (Some all) left' taken c w full =
      let r = some_taken all left' taken c in
      let first : take limit all ≡ taken ++ take (limit - length taken) r.0 = ap (take limit) r.1 ∙ take_past taken r.0 limit w in
      either (nat_le (length all) limit) (at_end all) (behind (take limit all)) (to_end all (ap behind r.1 ∙ later taken r.0 full)) (ap behind first ∙ later taken (take (limit - length taken) r.0) full)

  pub full_at_end : (left left' : Option (List ℕ)) (taken : List ℕ) → Consumes left left' taken → length taken ≤ limit → IsAtEnd left' → at_end taken ≡ true → IfSome left (λ all. fills all ≡ true)
  full_at_end None left' taken c w e full = tt
  full_at_end (Some all) left' taken c w e full =
      let is = all_taken all left' taken c e in
      fills_short all (omega (arith, ap length is, w)) ∙ ap at_end is ∙ full

-- Of a run

module _ (src : Source) (s : RunSettings) (start : Core) where
  abbrev lines_behind : Standing → List Line → Standing
  lines_behind t lines = after src (rule_of s) (run_limits s) t lines

  behind_both : (xs ys : List Line) (t : Standing) → lines_behind t (xs ++ ys) ≡ lines_behind (lines_behind t xs) ys
  unfolding after
  behind_both [] ys t = refl
  behind_both (x ∷ xs) ys t = behind_both xs ys (step src (rule_of s) (run_limits s) t x)

  abbrev run_behind : List ℕ → Bool
  run_behind bytes = (stands_behind src s start bytes).is_full

  abbrev run_at_end : List ℕ → Bool
  run_at_end bytes = (stands_at_end src s start bytes).is_full

  run_later : (taken more : List ℕ) → run_behind taken ≡ true → run_behind (taken ++ more) ≡ true
  run_later taken more full =
      ap (λ lines. (lines_behind (begun start) lines).is_full) (whole-append taken more [])
      ∙ ap (λ (t : Standing). t.is_full) (behind_both (whole_lines taken) (whole_from (rest_from [] taken) more) (begun start))
      ∙ stopped src (rule_of s) (run_limits s) (whole_from (rest_from [] taken) more) (stands_behind src s start taken) full

  run_to_end : (all : List ℕ) → run_behind all ≡ true → run_at_end all ≡ true
  run_to_end all full =
      stopped_at_end src (rule_of s) (run_limits s) _ _
      (ap (λ (t : Standing). t.is_full) (behind_both (whole_lines all) (last_line (rest_from [] all)) (begun start))
      ∙ stopped src (rule_of s) (run_limits s) (last_line (rest_from [] all)) (stands_behind src s start all) full)

  module _ (left left' held held' : Option (List ℕ)) (taken : List ℕ) (last : Core) (consumed : Consumes left left' taken) where
    pub run_fits : AnswersAll src s start left' held held' taken last → IfSome left (λ all. (length all ≤ s.limit) × (fills_history src s start all ≡ false))
    run_fits a = fits_whole s.limit run_behind run_at_end run_later run_to_end left left' taken consumed a.within a.ended a.goes_on

    pub run_exceeds : AnswersFirst src s start left' held held' taken last → IfSome left (λ all. (s.limit < length all) × (fills_history src s start all ≡ false))
    run_exceeds a = exceeds_by s.limit run_behind run_at_end run_later run_to_end left left' taken consumed a.full a.goes_on

    pub run_fills : FillsAtLine src s start left' held held' taken last ⊎ FillsAtEnd src s start left' held held' taken last
        → IfSome left (λ all. fills_history src s start all ≡ true)
    run_fills (inl a) = full_at_line s.limit run_behind run_at_end run_later run_to_end left left' taken consumed a.within a.full
    run_fills (inr a) = full_at_end s.limit run_behind run_at_end run_later run_to_end left left' taken consumed a.within a.ended a.full
