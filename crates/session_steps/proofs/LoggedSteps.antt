-- What steps leave in a store, one after another.
use Rattle.std.proofs.Common.{◌≡◌, ℕ, ◌+◌, ◌-◌, ◌≤◌, ◌<◌, List, [], ◌∷◌, ◌++◌, length, false, if◌then◌else◌, sym, ap, ◌∙◌, subst, append_assoc, Bool, arith}
use Rattle.std.specs.declared.option.Option.{Option}
use Rattle.sf_outside.specs.DiskModel.{DiskFacts}
use Rattle.request_json.specs.Actions.{Line, whole_lines, all_lines, last_line, rest_from}
use Rattle.line_answers.specs.Vocabulary.{Core, Logs, StoreSettings, runs_on}
use Rattle.line_answers.specs.Services.{Service, program_of}
use Rattle.line_answers.specs.LineAnswers.{before, move_at, ran_by}
use Rattle.line_answers.proofs.Vocabulary.{Logs-then, Logs-more}
use Rattle.session_steps.specs.Steps.{Step, open_at, Answer, RunWaiting, answers, endings, standing_after, last_steps, all_steps, whole_steps, ran_on}
use Rattle.session_steps.specs.Doings.{Point, going, Does, LogsSteps}
use Rattle.session_steps.proofs.StepFacts.{standing-append, ran-append, ran-one}
use Rattle.session_steps.proofs.Leaves.{some_waits}
use Rattle.session_steps.proofs.Endings.{runs, runs-add, answers-append}

module _ (v : Service) (settings : Option StoreSettings) where
  -- ---- one step

  pub Logged-line : (core : Core) (lines : ℕ) (line : Line) (first last : Core) (old new : DiskFacts)
      → Logs (program_of v) v.rule settings (ran_by v (move_at v (before core (lines + 1)) line)) first last old new → LogsSteps v settings core lines (Answer line ∷ []) first last old new
  Logged-line core lines line first last old new l =
      let numbered : lines + 1 - 1 ≡ lines = omega arith in
      subst (λ ran. Logs (program_of v) v.rule settings ran first last old new)
      (ap (λ n. ran_by v (move_at v (open_at core n) line)) numbered ∙ sym (ran-one v (open_at core lines) (Answer line))) l

  pub Logged-batch : (core : Core) (lines : ℕ) (first last : Core) (old new : DiskFacts) → 0 < length core.pending
      → Logs (program_of v) v.rule settings (runs_on (program_of v) v.rule v.limits core) first last old new → LogsSteps v settings core lines (RunWaiting ∷ []) first last old new
  Logged-batch core lines first last old new some l =
      subst (λ ran. Logs (program_of v) v.rule settings ran first last old new)
      (sym (ap (λ due. if due then runs_on (program_of v) v.rule v.limits core else []) (some_waits v false core some)) ∙ sym (ran-one v (open_at core lines) RunWaiting)) l

  -- ---- steps, and then more of them

  pub Logged-then : (traces : Bool) (xs ys : List Step) (p q : Point) (first mid last : Core) (old between new : DiskFacts) → Does v traces xs p q
      → LogsSteps v settings p.core p.lines xs first mid old between → LogsSteps v settings q.core q.lines ys mid last between new
      → LogsSteps v settings p.core p.lines (xs ++ ys) first last old new
  Logged-then traces xs ys p q first mid last old between new d l m =
      let cores : ran_on v (going p) (xs ++ ys) ≡ ran_on v (going p) xs ++ ran_on v (going q) ys = ran-append v xs ys (going p)
      ∙ ap (λ s. ran_on v (going p) xs ++ ran_on v s ys) d.stands in
      subst (λ ran. Logs (program_of v) v.rule settings ran first last old new) (sym cores)
      (Logs-then (program_of v) v.rule settings (ran_on v (going p) xs) (ran_on v (going q) ys) first mid last old between new l m)

  -- perhaps more than were begun
  pub Logged-more : (xs ys : List Step) (core : Core) (lines : ℕ) (first last : Core) (old new : DiskFacts) → LogsSteps v settings core lines xs first last old new
      → LogsSteps v settings core lines (xs ++ ys) first last old new
  Logged-more xs ys core lines first last old new l =
      let s = open_at core lines in
      subst (λ ran. Logs (program_of v) v.rule settings ran first last old new) (sym (ran-append v xs ys s))
      (Logs-more (program_of v) v.rule settings (ran_on v s xs) (ran_on v (standing_after v s xs) ys) first last old new l)

  pub Logged-of : (xs ys : List Step) (core : Core) (lines : ℕ) (first last : Core) (old new : DiskFacts) → xs ≡ ys → LogsSteps v settings core lines xs first last old new
      → LogsSteps v settings core lines ys first last old new
  Logged-of xs ys core lines first last old new same l = subst (λ steps. LogsSteps v settings core lines steps first last old new) same l

  -- ---- the end of the input

  -- one batch more
  pub Logged-run : (traces : Bool) (count : ℕ) (p q : Point) (first mid last : Core) (old between new : DiskFacts) → Does v traces (runs count) p q
      → LogsSteps v settings p.core p.lines (runs count) first mid old between → LogsSteps v settings q.core q.lines (RunWaiting ∷ []) mid last between new
      → LogsSteps v settings p.core p.lines (runs (count + 1)) first last old new
  Logged-run traces count p q first mid last old between new d l m =
      Logged-of (runs count ++ runs 1) (runs (count + 1)) p.core p.lines first last old new (sym (runs-add count 1))
      (Logged-then traces (runs count) (RunWaiting ∷ []) p q first mid last old between new d l m)

  -- no more batches than requests waited
  pub Logged-endings : (count : ℕ) (p : Point) (first last : Core) (old new : DiskFacts) → count ≤ length p.core.pending → LogsSteps v settings p.core p.lines (runs count) first last old new
      → LogsSteps v settings p.core p.lines (endings (going p)) first last old new
  Logged-endings count p first last old new within l =
      let left = length p.core.pending - count in
      let all : count + left ≡ length p.core.pending = omega arith in
      Logged-of (runs count ++ runs left) (endings (going p)) p.core p.lines first last old new (sym (runs-add count left) ∙ ap runs all)
      (Logged-more (runs count) (runs left) p.core p.lines first last old new l)

  -- lines, and then the batches
  pub Logged-last : (traces : Bool) (lines : List Line) (p q : Point) (first mid last : Core) (old between new : DiskFacts) → Does v traces (answers lines) p q
      → LogsSteps v settings p.core p.lines (answers lines) first mid old between → LogsSteps v settings q.core q.lines (endings (going q)) mid last between new
      → LogsSteps v settings p.core p.lines (last_steps v (going p) lines) first last old new
  Logged-last traces lines p q first mid last old between new d l m =
      subst (λ s. LogsSteps v settings p.core p.lines (answers lines ++ endings s) first last old new) (sym d.stands)
      (Logged-then traces (answers lines) (endings (going q)) p q first mid last old between new d l m)

  -- the whole lines of an input, and then what is left of it and its end
  pub Logged-all : (traces : Bool) (bytes : List ℕ) (p q : Point) (first mid last : Core) (old between new : DiskFacts) → p.lines ≡ 0 → Does v traces (whole_steps bytes) p q
      → LogsSteps v settings p.core p.lines (whole_steps bytes) first mid old between
      → LogsSteps v settings q.core q.lines (last_steps v (going q) (last_line (rest_from [] bytes))) mid last between new
      → LogsSteps v settings p.core 0 (all_steps v p.core bytes) first last old new
  Logged-all traces bytes p q first mid last old between new none d l m =
      let xs = whole_lines bytes in
      let ys = last_line (rest_from [] bytes) in
      let stands : standing_after v (going p) (answers (xs ++ ys)) ≡ standing_after v (going q) (answers ys) =
      ap (standing_after v (going p)) (answers-append xs ys) ∙ standing-append v (answers xs) (answers ys) (going p)
      ∙ ap (λ s. standing_after v s (answers ys)) d.stands in
      let end = endings (standing_after v (going q) (answers ys)) in
      subst (λ n. LogsSteps v settings p.core n (last_steps v (open_at p.core n) (all_lines bytes)) first last old new) none
      (Logged-of (answers xs ++ (answers ys ++ end)) (last_steps v (going p) (all_lines bytes)) p.core p.lines first last old new
      (sym (append_assoc (answers xs) (answers ys) end) ∙ ap (λ l. l ++ end) (sym (answers-append xs ys))
      ∙ ap (λ s. answers (xs ++ ys) ++ endings s) (sym stands))
      (Logged-then traces (answers xs) (answers ys ++ end) p q first mid last old between new d l m))
