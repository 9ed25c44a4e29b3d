-- What steps print is what a session in batches prints.
use Rattle.std.proofs.Common.{◌≡◌, ℕ, zero, suc, Bool, true, false, List, [], ◌∷◌, ◌++◌, length, if◌then◌else◌, refl, sym, ap, ◌∙◌}
use Rattle.request_json.specs.Actions.{Line, all_lines}
use Rattle.line_answers.specs.Vocabulary.{Core}
use Rattle.batch_output.specs.BatchOutput as output
use Rattle.batch_output.specs.BatchOutput.{Standing, begun, settled, batch_lines, is_over, after, replies, at_end, end_replies}
use Rattle.line_answers.specs.Services.{Service, program_of}
use Rattle.session_steps.specs.Steps.{Answer, RunWaiting, answers, endings, behind, printed_at, standing_after, printed}
use Rattle.session_steps.specs.StepLaws.{AnswersPrint, InputPrints, StepsPrint}
use Rattle.session_steps.proofs.StepFacts.{standing-append, printed-append}
use Rattle.session_steps.proofs.Endings.{runs}

module _ (v : Service) where
  abbrev goes_to : Standing → List Line → Standing
  goes_to s lines = after (program_of v) v.rule v.limits s lines

  abbrev prints : Standing → List Line → List (List ℕ)
  prints s lines = replies (program_of v) v.rule v.limits s lines

  abbrev over : Standing → Bool
  over s = is_over (program_of v) v.rule v.limits s

  -- Lines

  pub answers_stand : (lines : List Line) (s : Standing) → standing_after v s (answers lines) ≡ goes_to s lines
  unfolding standing_after output.after
  answers_stand [] s = refl
  answers_stand (line ∷ lines) s = answers_stand lines (behind v s (Answer line))

  pub answers_print : (lines : List Line) (s : Standing) → printed v s (answers lines) ≡ prints s lines
  unfolding printed output.replies
  answers_print [] s = refl
  answers_print (line ∷ lines) s = ap (λ l. printed_at v s (Answer line) ++ l) (answers_print lines (behind v s (Answer line)))

  -- The end

  behind_end : (s : Standing) → over s ≡ true → behind v s RunWaiting ≡ s
  behind_end s is = ap (λ b. if b then s else settled (program_of v) v.rule v.limits s) is

  stays_over : (n : ℕ) (s : Standing) → over s ≡ true → standing_after v s (runs n) ≡ s
  unfolding standing_after
  stays_over zero s is = refl
  stays_over (suc n) s is = ap (λ t. standing_after v t (runs n)) (behind_end s is) ∙ stays_over n s is

  prints_over : (n : ℕ) (s : Standing) → over s ≡ true → printed v s (runs n) ≡ []
  unfolding printed
  prints_over zero s is = refl
  prints_over (suc n) s is =
      ap (λ b. (if b then [] else batch_lines (program_of v) v.rule v.limits s.core) ++ printed v (behind v s RunWaiting) (runs n)) is
      ∙ ap (λ t. printed v t (runs n)) (behind_end s is)
      ∙ prints_over n s is

  abbrev ended : ℕ → Standing → Standing
  ended n s = output.ended (program_of v) v.rule v.limits n s

  abbrev last : ℕ → Standing → List (List ℕ)
  last n s = output.last_replies (program_of v) v.rule v.limits n s

  abbrev next : Standing → Standing
  next s = settled (program_of v) v.rule v.limits s

  abbrev lines_at : Standing → List (List ℕ)
  lines_at s = batch_lines (program_of v) v.rule v.limits s.core

  -- one step more, by whether the session is over, where the rest does as the definition does
  stand_more : (n : ℕ) (s : Standing) (b : Bool) → over s ≡ b → standing_after v (next s) (runs n) ≡ ended n (next s)
      → standing_after v s (runs (suc n)) ≡ ended (suc n) s
  unfolding standing_after output.ended
  stand_more n s true is rest = stays_over (suc n) s is ∙ sym (ap (λ b. if b then s else ended n (next s)) is)
  stand_more n s false is rest = ap (λ b. standing_after v (if b then s else next s) (runs n)) is ∙ rest ∙ sym (ap (λ b. if b then s else ended n (next s)) is)

  runs_stand : (n : ℕ) (s : Standing) → standing_after v s (runs n) ≡ ended n s
  unfolding standing_after output.ended
  runs_stand zero s = refl
  runs_stand (suc n) s = stand_more n s (over s) refl (runs_stand n (next s))

  print_more : (n : ℕ) (s : Standing) (b : Bool) → over s ≡ b → printed v (next s) (runs n) ≡ last n (next s) → printed v s (runs (suc n)) ≡ last (suc n) s
  unfolding printed output.last_replies
  print_more n s true is rest = prints_over (suc n) s is ∙ sym (ap (λ b. if b then [] else lines_at s ++ last n (next s)) is)
  print_more n s false is rest =
      ap (λ b. (if b then [] else lines_at s) ++ printed v (if b then s else next s) (runs n)) is
      ∙ ap (λ l. lines_at s ++ l) rest
      ∙ sym (ap (λ b. if b then [] else lines_at s ++ last n (next s)) is)

  runs_print : (n : ℕ) (s : Standing) → printed v s (runs n) ≡ last n s
  unfolding printed output.last_replies
  runs_print zero s = refl
  runs_print (suc n) s = print_more n s (over s) refl (runs_print n (next s))

  -- The whole

  pub lines_print : (s : Standing) (lines : List Line) → AnswersPrint v s lines
  lines_print s lines = record { stands = answers_stand lines s; prints = answers_print lines s }

  pub input_prints : (core : Core) (bytes : List ℕ) → InputPrints v core bytes
  input_prints core bytes =
      let lines = all_lines bytes in
      let s = standing_after v (begun core) (answers lines) in
      record {
        stands =
            standing-append v (answers lines) (endings s) (begun core) ∙ runs_stand (length s.core.pending) s
            ∙ ap (at_end (program_of v) v.rule v.limits) (answers_stand lines (begun core));
        prints =
            printed-append v (answers lines) (endings s) (begun core)
            ∙ ap (λ l. l ++ printed v s (endings s)) (answers_print lines (begun core))
            ∙ ap (λ l. prints (begun core) lines ++ l) (runs_print (length s.core.pending) s
            ∙ ap (end_replies (program_of v) v.rule v.limits) (answers_stand lines (begun core)));
      }

pub steps_print : StepsPrint
steps_print = λ v. (lines_print v, input_prints v)
