-- What a session in batches does with a line of its input, and at its end.
use Rattle.std.specs.Prelude.{List, [], ◌∷◌, ℕ, Bool}
use Rattle.std.specs.declared.result.Result.{Result}
use Rattle.request_json.specs.RequestLines.{longest}
use Rattle.request_json.specs.Actions.{last_line}
use Rattle.input_lines.specs.Reads.{IsStart}
use Rattle.session_steps.specs.Vocabulary.{Stop, cut, Service}
use Rattle.session_steps.specs.Steps.{Answer, RunWaiting, answers, endings, last_steps}
use Rattle.session_steps.specs.Doings.{Point, going, Comes}

module _ (v : Service) (traces : Bool) where
  -- whatever line these bytes are the start of was answered
  abbrev pub AnswersKept : {T : Type 0} → Result T Stop → Bool → List ℕ → Point → Point → Type 0
  AnswersKept result ended kept old new = (line : List ℕ) → IsStart longest kept line → Comes v traces result (Answer (cut ended line) ∷ []) old new

  -- behind whatever part of a line these bytes are the start of, the input ended: a last line was answered, where it has a byte
  abbrev pub AnswersLast : {T : Type 0} → Result T Stop → List ℕ → Point → Point → Type 0
  AnswersLast result kept old new = (part : List ℕ) → IsStart longest kept part → Comes v traces result (answers (last_line part)) old new

  -- a batch ran of all that waited
  abbrev pub RunsOne : {T : Type 0} → Result T Stop → Point → Point → Type 0
  RunsOne result old new = Comes v traces result (RunWaiting ∷ []) old new

  -- batches ran until nothing waited
  abbrev pub RunsWaiting : {T : Type 0} → Result T Stop → Point → Point → Type 0
  RunsWaiting result old new = Comes v traces result (endings (going old)) old new

  -- a last line, and then the batches
  abbrev pub Finishes : {T : Type 0} → Result T Stop → List ℕ → Point → Point → Type 0
  Finishes result kept old new = (part : List ℕ) → IsStart longest kept part → Comes v traces result (last_steps v (going old) (last_line part)) old new
