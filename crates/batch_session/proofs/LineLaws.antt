-- The start of a line that is kept is enough of it.
use Rattle.std.proofs.Common.{◌≡◌, ℕ, ◌+◌, Bool, true, false, List, take, Option, ap, ◌∙◌, subst}
use Rattle.std.specs.declared.result.Result.{Result}
use Rattle.program_meaning.specs.ClassTables.{Source}
use Rattle.request_json.specs.RequestLines.{longest}
use Rattle.request_json.specs.Actions.{Line, Ended, Left, Refuse, LineTooLong, action_of, used, content_of}
use Rattle.input_lines.specs.Reads.{IsStart}
use Rattle.input_lines.proofs.StartLaws.{start_tells}
use Rattle.session_steps.specs.Vocabulary.{BatchCounts, Standing, Stop, cut, Service, program_of, Moment, AnswersLine}
use Rattle.session_steps.proofs.Leaves.{Line-as}

-- the start of a line asks what the line asks
action-start : (src : Source) (ended : Bool) (line : List ℕ) → action_of src (cut ended (take (longest + 1) line)) ≡ action_of src (cut ended line)
unfolding action_of
action-start src true line = start_tells longest line (λ l. used src (content_of (Ended l))) (Refuse LineTooLong)
action-start src false line = start_tells longest line (λ l. used src (content_of (Left l))) (Refuse LineTooLong)

-- also where it is shown
pub asks_the_same : (src : Source) (shown : Line) (ended : Bool) (kept line : List ℕ) → shown ≡ cut ended kept → IsStart longest kept line
    → action_of src shown ≡ action_of src (cut ended line)
asks_the_same src shown ended kept line is start = ap (action_of src) is ∙ ap (λ l. action_of src (cut ended l)) start ∙ action-start src ended line

-- a line of which the start was answered was answered
pub start_answered : (v : Service) (r r' : Result (Option BatchCounts) Stop) (s : Standing) (shown : Line) (ended : Bool) (kept line : List ℕ) (old new : Moment)
    → r ≡ r' → shown ≡ cut ended kept → IsStart longest kept line → AnswersLine v r s shown old new → AnswersLine v r' s (cut ended line) old new
start_answered v r r' s shown ended kept line old new same is start a =
    Line-as v r' s shown (cut ended line) old new (asks_the_same (program_of v) shown ended kept line is start) (subst (λ x. AnswersLine v x s shown old new) same a)
