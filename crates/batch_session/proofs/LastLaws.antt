-- The last line of an input, of which the start is kept.
use Rattle.std.proofs.Common.{◌≡◌, ℕ, Bool, false, List, [], ◌∷◌, Ok, sym, ◌∙◌, subst}
use Rattle.std.specs.declared.option.Option.{Option}
use Rattle.std.specs.declared.result.Result.{Result}
use Rattle.sf_outside.specs.DiskModel.{DiskFacts}
use Rattle.request_json.specs.RequestLines.{longest}
use Rattle.request_json.specs.Actions.{last_line}
use Rattle.input_lines.specs.Reads.{IsStart}
use Rattle.input_lines.proofs.StartLaws.{some_start}
use Rattle.engine.specs.Cores.{Core}
use Rattle.session_steps.specs.Vocabulary.{Stop, cut, Service, StoreSettings}
use Rattle.session_steps.specs.Steps.{Answer, answers}
use Rattle.session_steps.specs.Doings.{Point, Comes, LogsSteps}
use Rattle.session_steps.proofs.Composing.{Does-none}
use Rattle.batch_session.specs.Answering.{AnswersKept}

module _ (v : Service) (traces : Bool) where
  -- where nothing is kept there is none
  pub last-none : {U : Type 0} (u : U) (kept line : List ℕ) (p : Point) → IsStart longest kept line → kept ≡ [] → Comes v traces (Ok u) (answers (last_line line)) p p
  last-none u kept [] p start none = Does-none v traces p
  last-none u kept (b ∷ bs) p start none = absurd (some_start longest b bs (sym none ∙ start))

  -- else it is the line that no LF ended
  pub last-line : {T : Type 0} (r : Result T Stop) (ended : Bool) (kept line : List ℕ) (p q : Point) → ended ≡ false → IsStart longest kept line → (kept ≡ [] → ⊥)
      → AnswersKept v traces r ended kept p q → Comes v traces r (answers (last_line line)) p q
  last-line r ended kept [] p q left start some a = absurd (some start)
  last-line r ended kept (b ∷ bs) p q left start some a = subst (λ e. Comes v traces r (Answer (cut e (b ∷ bs)) ∷ []) p q) left (a (b ∷ bs) start)

-- the same of what is logged
pub Logged-left : (v : Service) (settings : Option StoreSettings) (core : Core) (lines : ℕ) (ended : Bool) (kept line : List ℕ) (first last : Core) (old new : DiskFacts)
    → ended ≡ false → IsStart longest kept line → (kept ≡ [] → ⊥)
    → ((whole : List ℕ) → IsStart longest kept whole → LogsSteps v settings core lines (Answer (cut ended whole) ∷ []) first last old new)
    → LogsSteps v settings core lines (answers (last_line line)) first last old new
Logged-left v settings core lines ended kept [] first last old new left start some l = absurd (some start)
Logged-left v settings core lines ended kept (b ∷ bs) first last old new left start some l =
    subst (λ e. LogsSteps v settings core lines (Answer (cut e (b ∷ bs)) ∷ []) first last old new) left (l (b ∷ bs) start)
