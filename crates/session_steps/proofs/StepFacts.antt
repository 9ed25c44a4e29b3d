-- What one step does, by whether a batch is due and has a place; and what steps do, one after another.
use Rattle.std.proofs.Common.{◌≡◌, ℕ, ◌+◌, Bool, true, false, not, ◌||◌, List, [], ◌∷◌, ◌++◌, length, if◌then◌else◌, refl, sym, ap, ◌∙◌, append_assoc, append-nil}
use Rattle.request_json.specs.Actions.{action_of}
use Rattle.batch_output.specs.BatchOutput.{Standing, waits, answer, taken, is_due, with_line, committed, settled, batch_lines, entry_lines, settled_if, lines_if}
use Rattle.line_answers.specs.Vocabulary.{Core, batch_entries, HasPlace, IsFull, core_behind, runs_on}
use Rattle.line_answers.specs.Services.{Service, program_of}
use Rattle.line_answers.specs.LineAnswers.{Move}
use Rattle.session_steps.specs.Steps.{Step, open_at, Answer, RunWaiting, move_of, behind, printed_at, ran_at, standing_after, printed, ran_on}

-- how many lines came behind a step
abbrev pub lines_behind : ℕ → Step → ℕ
lines_behind n (Answer line) = n + 1
lines_behind n RunWaiting = n

if_not : {A : Type 0} (b : Bool) (x y : A) → (if not b then x else y) ≡ (if b then y else x)
if_not true x y = refl
if_not false x y = refl

module _ (v : Service) where
  abbrev lines_of : Core → List (List ℕ)
  lines_of core = batch_lines (program_of v) v.rule v.limits core

  abbrev settle : Standing → Standing
  settle s = settled (program_of v) v.rule v.limits s

  -- One step

  module _ (core : Core) (n : ℕ) (step : Step) where
    abbrev pub m : Move
    m = move_of v (open_at core n) step

  pub printed_is : (core : Core) (n : ℕ) (step : Step) → printed_at v (open_at core n) step
      ≡ (m core n step).answer ++ lines_if (program_of v) v.rule v.limits (m core n step).is_due (m core n step).core
  printed_is core n (Answer line) = refl
  printed_is core n RunWaiting = if_not (waits core) [] (lines_of core)

  behind_is : (core : Core) (n : ℕ) (step : Step)
      → behind v (open_at core n) step ≡ settled_if (program_of v) v.rule v.limits (m core n step).is_due (open_at (m core n step).core (lines_behind n step))
  behind_is core n (Answer line) = refl
  behind_is core n RunWaiting = if_not (waits core) (open_at core n) (settle (open_at core n))

  abbrev run_if : Bool → Core → List Core
  run_if due core = if due then runs_on (program_of v) v.rule v.limits core else []

  ran_is : (core : Core) (n : ℕ) (step : Step) → ran_at v (open_at core n) step ≡ run_if (m core n step).is_due (m core n step).core
  ran_is core n step = refl

  abbrev by_room : Bool → Core → ℕ → Standing
  by_room full core lines =
      if full
      then record { core = core; lines = lines; is_full = true }
      else record { core = core_behind (program_of v) v.rule v.limits core; lines = lines; is_full = false }

  abbrev lines_by : Bool → Core → List (List ℕ)
  lines_by full core = if full then [] else entry_lines (length core.history + 1)
      (batch_entries (program_of v) core (committed (program_of v) v.rule v.limits core))

  abbrev run_by : Bool → Core → List Core
  run_by full core = if full then [] else core ∷ []

  module _ (core : Core) (n : ℕ) (step : Step) where
    -- no batch is due

    pub printed_undue : (m core n step).is_due ≡ false → printed_at v (open_at core n) step ≡ (m core n step).answer
    printed_undue undue =
        printed_is core n step ∙ ap (λ b. (m core n step).answer ++ lines_if (program_of v) v.rule v.limits b (m core n step).core) undue
        ∙ append-nil (m core n step).answer

    pub behind_undue : (m core n step).is_due ≡ false → behind v (open_at core n) step ≡ open_at (m core n step).core (lines_behind n step)
    behind_undue undue = behind_is core n step ∙ ap (λ b. settled_if (program_of v) v.rule v.limits b (open_at (m core n step).core (lines_behind n step)))
        undue

    pub ran_undue : (m core n step).is_due ≡ false → ran_at v (open_at core n) step ≡ []
    ran_undue undue = ran_is core n step ∙ ap (λ b. run_if b (m core n step).core) undue

    module _ (due : (m core n step).is_due ≡ true) where
      printed_due : printed_at v (open_at core n) step ≡ (m core n step).answer ++ lines_of (m core n step).core
      printed_due = printed_is core n step ∙ ap (λ b. (m core n step).answer ++ lines_if (program_of v) v.rule v.limits b (m core n step).core) due

      behind_due : behind v (open_at core n) step ≡ settle (open_at (m core n step).core (lines_behind n step))
      behind_due = behind_is core n step ∙ ap (λ b. settled_if (program_of v) v.rule v.limits b (open_at (m core n step).core (lines_behind n step))) due

      ran_due : ran_at v (open_at core n) step ≡ runs_on (program_of v) v.rule v.limits (m core n step).core
      ran_due = ran_is core n step ∙ ap (λ b. run_if b (m core n step).core) due

      -- the batch that is due has a place

      pub printed_placed : printed_at v (open_at core n) step ≡ (m core n step).answer ++ lines_of (m core n step).core
      printed_placed = printed_due

      pub behind_placed : HasPlace (program_of v) v.rule v.limits (m core n step).core
          → behind v (open_at core n) step ≡ open_at (core_behind (program_of v) v.rule v.limits (m core n step).core) (lines_behind n step)
      behind_placed place = behind_due ∙ ap (λ b. by_room b (m core n step).core (lines_behind n step)) place

      pub ran_placed : HasPlace (program_of v) v.rule v.limits (m core n step).core → ran_at v (open_at core n) step ≡ (m core n step).core ∷ []
      ran_placed place = ran_due ∙ ap (λ b. run_by b (m core n step).core) place

      -- it has none

      pub printed_full : IsFull (program_of v) v.rule v.limits (m core n step).core → printed_at v (open_at core n) step ≡ (m core n step).answer
      printed_full full = printed_due ∙ ap (λ b. (m core n step).answer ++ lines_by b (m core n step).core) full ∙ append-nil (m core n step).answer

      pub behind_full : IsFull (program_of v) v.rule v.limits (m core n step).core
          → behind v (open_at core n) step ≡ record { core = (m core n step).core; lines = lines_behind n step; is_full = true }
      behind_full full = behind_due ∙ ap (λ b. by_room b (m core n step).core (lines_behind n step)) full

      pub ran_full : IsFull (program_of v) v.rule v.limits (m core n step).core → ran_at v (open_at core n) step ≡ []
      ran_full full = ran_due ∙ ap (λ b. run_by b (m core n step).core) full

  -- Behind a full history

  behind_over : (s : Standing) (step : Step) → s.is_full ≡ true → behind v s step ≡ s
  behind_over s (Answer line) over =
      let action = action_of (program_of v) line in
      ap (λ full. if full then s else settled_if (program_of v) v.rule v.limits (is_due (program_of v) v.rule v.limits s.core action)
      (with_line (program_of v) v.rule v.limits s action)) over
  behind_over s RunWaiting over = ap (λ b. if b || not (waits s.core) then s else settle s) over

  printed_over : (s : Standing) (step : Step) → s.is_full ≡ true → printed_at v s step ≡ []
  printed_over s (Answer line) over =
      let action = action_of (program_of v) line in
      ap (λ full. if full then [] else answer s.core (s.lines + 1) action ++ lines_if (program_of v) v.rule v.limits
      (is_due (program_of v) v.rule v.limits s.core action) (taken s.core action)) over
  printed_over s RunWaiting over = ap (λ b. if b || not (waits s.core) then [] else lines_of s.core) over

  ran_over : (s : Standing) (step : Step) → s.is_full ≡ true → ran_at v s step ≡ []
  ran_over s step over = ap (λ b. if b then [] else run_if (move_of v s step).is_due (move_of v s step).core) over

  pub standing_over : (s : Standing) (steps : List Step) → s.is_full ≡ true → standing_after v s steps ≡ s
  unfolding standing_after
  standing_over s [] over = refl
  standing_over s (step ∷ steps) over = ap (λ t. standing_after v t steps) (behind_over s step over) ∙ standing_over s steps over

  pub all_printed_over : (s : Standing) (steps : List Step) → s.is_full ≡ true → printed v s steps ≡ []
  unfolding printed
  all_printed_over s [] over = refl
  all_printed_over s (step ∷ steps) over =
      ap (λ l. l ++ printed v (behind v s step) steps) (printed_over s step over)
      ∙ ap (λ t. printed v t steps) (behind_over s step over)
      ∙ all_printed_over s steps over

  pub all_ran_over : (s : Standing) (steps : List Step) → s.is_full ≡ true → ran_on v s steps ≡ []
  unfolding ran_on
  all_ran_over s [] over = refl
  all_ran_over s (step ∷ steps) over =
      ap (λ l. l ++ ran_on v (behind v s step) steps) (ran_over s step over)
      ∙ ap (λ t. ran_on v t steps) (behind_over s step over)
      ∙ all_ran_over s steps over

  -- Steps, and then more of them

  pub standing-append : (xs ys : List Step) (s : Standing) → standing_after v s (xs ++ ys) ≡ standing_after v (standing_after v s xs) ys
  unfolding standing_after
  standing-append [] ys s = refl
  standing-append (x ∷ xs) ys s = standing-append xs ys (behind v s x)

  pub printed-append : (xs ys : List Step) (s : Standing) → printed v s (xs ++ ys) ≡ printed v s xs ++ printed v (standing_after v s xs) ys
  unfolding standing_after printed
  printed-append [] ys s = refl
  printed-append (x ∷ xs) ys s =
      ap (λ l. printed_at v s x ++ l) (printed-append xs ys (behind v s x))
      ∙ sym (append_assoc (printed_at v s x) (printed v (behind v s x) xs) (printed v (standing_after v (behind v s x) xs) ys))

  pub ran-append : (xs ys : List Step) (s : Standing) → ran_on v s (xs ++ ys) ≡ ran_on v s xs ++ ran_on v (standing_after v s xs) ys
  unfolding standing_after ran_on
  ran-append [] ys s = refl
  ran-append (x ∷ xs) ys s =
      ap (λ l. ran_at v s x ++ l) (ran-append xs ys (behind v s x))
      ∙ sym (append_assoc (ran_at v s x) (ran_on v (behind v s x) xs) (ran_on v (standing_after v (behind v s x) xs) ys))

  -- none

  pub standing-nil : (s : Standing) → standing_after v s [] ≡ s
  unfolding standing_after
  standing-nil s = refl

  pub printed-nil : (s : Standing) → printed v s [] ≡ []
  unfolding printed
  printed-nil s = refl

  pub ran-nil : (s : Standing) → ran_on v s [] ≡ []
  unfolding ran_on
  ran-nil s = refl

  -- one

  pub standing-one : (s : Standing) (step : Step) → standing_after v s (step ∷ []) ≡ behind v s step
  unfolding standing_after
  standing-one s step = refl

  pub printed-one : (s : Standing) (step : Step) → printed v s (step ∷ []) ≡ printed_at v s step
  unfolding printed
  printed-one s step = append-nil (printed_at v s step)

  pub ran-one : (s : Standing) (step : Step) → ran_on v s (step ∷ []) ≡ ran_at v s step
  unfolding ran_on
  ran-one s step = append-nil (ran_at v s step)

  -- the first of them, and the rest

  pub printed-cons : (s : Standing) (step : Step) (steps : List Step) → printed v s (step ∷ steps) ≡ printed_at v s step ++ printed v (behind v s step) steps
  unfolding printed
  printed-cons s step steps = refl

  pub ran-cons : (s : Standing) (step : Step) (steps : List Step) → ran_on v s (step ∷ steps) ≡ ran_at v s step ++ ran_on v (behind v s step) steps
  unfolding ran_on
  ran-cons s step steps = refl
