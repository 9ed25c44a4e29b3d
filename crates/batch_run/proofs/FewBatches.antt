-- A run has fewer batches than a count can hold: each line of its input has one at most, and then as many come as requests wait.
use Rattle.std.proofs.Common.{◌≡◌, ℕ, suc, ◌+◌, ◌-◌, ◌^◌, ◌<◌, ◌≤◌, ◌⊎◌, inl, inr, Bool, true, false, nat_eq, List, [], ◌∷◌, ◌++◌, length, take, if◌then◌else◌, refl, ap, ◌∙◌, subst, sym, arith}
use Rattle.std.specs.declared.option.Option.{Option}
use Rattle.std.proofs.lemmas.List.{length-append, length-map, length-take, length-replicate}
use Rattle.request_json.specs.Actions.{Line, Ended, whole_from, rest_from, last_line, whole_lines, all_lines}
use Rattle.block_step.specs.declared.compiled.Compiled.{Compiled}
use Rattle.engine.specs.Cores.{Core, CoreFits}
use Rattle.batch_output.specs.BatchOutput.{Standing, begun, has_no_place}
use Rattle.batch_session.specs.Vocabulary.{Step, Answer, RunWaiting, Service, program_of, answers, endings, whole_steps, all_steps, move_of, behind, ran_at, standing_after, ran_on}
use Rattle.batch_session.specs.Served.{AreWhole, AreAll, AreFirst}
use Rattle.batch_session.proofs.Vocabulary.{all_ran_over, ran-append}
use Rattle.batch_run.specs.RunViews.{run_service}
use Rattle.batch_run.specs.declared.running.RunSettings.{RunSettings}
use Rattle.batch_run.proofs.StandingLaws.{tables, from_start}

-- ---- lines

one_line : (is : Bool) (line : List ℕ) (ended going : List Line) (n : ℕ) → length ended ≤ n → length going ≤ n → length (if is then Ended line ∷ ended else going) ≤ suc n
one_line true line ended going n at_end within = omega (arith, at_end)
one_line false line ended going n at_end within = omega (arith, within)

whole_within : (part bytes : List ℕ) → length (whole_from part bytes) ≤ length bytes
unfolding whole_from
whole_within part [] = omega arith
whole_within part (b ∷ bs) =
    one_line (nat_eq b 10) part (whole_from [] bs) (whole_from (part ++ b ∷ []) bs) (length bs) (whole_within [] bs) (whole_within (part ++ b ∷ []) bs)

last_within : (bytes : List ℕ) → length (last_line bytes) ≤ 1
last_within [] = omega arith
last_within (b ∷ bs) = omega arith

all_within : (bytes : List ℕ) → length (all_lines bytes) ≤ length bytes + 1
all_within bytes = omega (arith, length-append (whole_lines bytes) (last_line (rest_from [] bytes)), whole_within [] bytes, last_within (rest_from [] bytes))

-- ---- steps

one_runs : (full due placed : Bool) (core : Core) → length (if full then [] else (if due then (if placed then [] else core ∷ []) else [])) ≤ 1
one_runs true due placed core = omega arith
one_runs false false placed core = omega arith
one_runs false true true core = omega arith
one_runs false true false core = omega arith

module _ (v : Service) where
  ran_within : (steps : List Step) (t : Standing) → length (ran_on v t steps) ≤ length steps
  unfolding ran_on
  ran_within [] t = omega arith
  ran_within (step ∷ steps) t =
      let next : Standing = behind v t step in
      let core : Core = (move_of v t step).core in
      let one : length (ran_at v t step) ≤ 1 = one_runs t.is_full (move_of v t step).is_due (has_no_place (program_of v) v.rule v.limits core) core in
      let rest : length (ran_on v next steps) ≤ length steps = ran_within steps next in
      let both : length (ran_at v t step ++ ran_on v next steps) ≡ length (ran_at v t step) + length (ran_on v next steps) = length-append (ran_at v t step) (ran_on v next steps) in
      omega (arith, one, rest, both)

  answers_within : (lines : List Line) (t : Standing) → length (ran_on v t (answers lines)) ≤ length lines
  answers_within lines t = omega (arith, ran_within (answers lines) t, length-map lines Answer)

  -- the first of some steps run no more than all
  pub first_within : (first rest : List Step) (t : Standing) → length (ran_on v t first) ≤ length (ran_on v t (first ++ rest))
  first_within first rest t =
      let both : length (ran_on v t (first ++ rest)) ≡ length (ran_on v t first) + length (ran_on v (standing_after v t first) rest) =
      ap length (ran-append v first rest t) ∙ length-append (ran_on v t first) (ran_on v (standing_after v t first) rest) in
      omega (arith, both)

module _ (compiled : Compiled) (s : RunSettings) (few : s.batch ≤ 256) (start : Core) (fits : CoreFits (tables compiled s few) start) (waiting : length start.pending < 256) where
  abbrev v : Service
  v = run_service compiled s

  -- at the end
  abbrev behind_lines : List Line → Standing
  behind_lines lines = standing_after v (begun start) (answers lines)

  end_within : (lines : List Line) → length (ran_on v (behind_lines lines) (endings (behind_lines lines))) ≤ 256
  end_within lines = by (behind_lines lines).is_full refl
    where
      by : (full : Bool) → (behind_lines lines).is_full ≡ full → length (ran_on v (behind_lines lines) (endings (behind_lines lines))) ≤ 256
      by true is =
          subst (λ (cores : List Core). length cores ≤ 256) (sym (all_ran_over v (behind_lines lines) (endings (behind_lines lines)) is)) (omega arith)
      by false is =
          let wait : length (behind_lines lines).core.pending < 256 = (from_start compiled s few start fits waiting (answers lines)).holds.wait is in
          omega (arith, wait, ran_within v (endings (behind_lines lines)) (behind_lines lines), length-replicate (length (behind_lines lines).core.pending) RunWaiting)

  last_within_all : (lines : List Line) → length (ran_on v (begun start) (answers lines ++ endings (standing_after v (begun start) (answers lines)))) ≤ length lines + 256
  last_within_all lines =
      let t : Standing = standing_after v (begun start) (answers lines) in
      let both : length (ran_on v (begun start) (answers lines ++ endings t)) ≡ length (ran_on v (begun start) (answers lines)) + length (ran_on v t (endings t)) =
      ap length (ran-append v (answers lines) (endings t) (begun start)) ∙ length-append (ran_on v (begun start) (answers lines)) (ran_on v t (endings t)) in
      omega (arith, both, answers_within v lines (begun start), end_within lines)

  abbrev Few : List Step → Type 0
  Few steps = length (ran_on v (begun start) steps) < 2 ^ 63

  few_whole : (bytes : List ℕ) → length bytes ≤ 2 ^ 62 → Few (whole_steps bytes)
  few_whole bytes within = omega (arith, within, answers_within v (whole_lines bytes) (begun start), whole_within [] bytes)

  few_all : (bytes : List ℕ) → length bytes ≤ 2 ^ 62 → Few (all_steps v start bytes)
  few_all bytes within = omega (arith, within, last_within_all (all_lines bytes), all_within bytes)

  pub few_batches : (taken : List ℕ) (left : Option (List ℕ)) (steps : List Step) → s.limit ≤ 2 ^ 62
      → AreFirst v s.limit taken steps ⊎ (AreWhole v s.limit taken steps ⊎ AreAll v s.limit start taken left steps) → Few steps
  few_batches taken left steps most (inl first) =
      subst (λ x. Few x) (sym first.1) (few_whole (take s.limit taken) (omega (arith, most, length-take s.limit taken)))
  few_batches taken left steps most (inr (inl whole)) = subst (λ x. Few x) (sym whole.1) (few_whole taken (omega (arith, most, whole.0)))
  few_batches taken left steps most (inr (inr all)) = subst (λ x. Few x) (sym all.2) (few_all taken (omega (arith, most, all.0)))

  -- so were told
  pub few_told : (told : ℕ) (steps first rest : List Step) → steps ≡ first ++ rest → Few steps → told ≤ length (ran_on v (begun start) first) → told < 2 ^ 64 - 1
  few_told told steps first rest split most ran =
      let within : length (ran_on v (begun start) first) ≤ length (ran_on v (begun start) steps) =
      subst (λ x. length (ran_on v (begun start) first) ≤ length (ran_on v (begun start) x)) (sym split) (first_within v first rest (begun start)) in
      omega (arith, most, ran, within)
