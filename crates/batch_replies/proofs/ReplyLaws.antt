-- The lines of replies, and what is counted of them.
use Rattle.std.proofs.Common.{◌≡◌, ℕ, ◌+◌, ◌<◌, List, [], ◌∷◌, ◌++◌, map as over, length, take, get_or, Option, None, Some, refl, sym, ap, ◌∙◌, append-nil, arith}
use Rattle.std.proofs.lemmas.List.{map_more}
use Rattle.std.specs.List.{slice_get, cons_option}
use Rattle.sf_value.specs.declared.Entry.{Entry}
use Rattle.sf_value.specs.declared.Outcome.{Outcome}
use Rattle.sf_value.specs.declared.Outcome.TheVariants as outcome
use Rattle.sf_value.specs.declared.Reply.{Reply}
use Rattle.sf_value.specs.declared.Request.{Request}
use Rattle.program_meaning.specs.ClassTables.{Source}
use Rattle.program_meaning.specs.World.{State}
use Rattle.program_meaning.specs.Serial.{outcomes_of}
use Rattle.batch_output.specs.Vocabulary.{entry_on, replies_from}
use Rattle.batch_output.specs.BatchOutput.{entry_lines}
use Rattle.batch_replies.specs.LinesInOrder.{line_for, line_of, reply_lines}
use Rattle.batch_replies.specs.BatchAnswers.{failure_count}

-- a further request has the reply behind those of the lines so far
pub lines_more : (requests : List Request) (replies : List Reply) (r : Request)
    → reply_lines (requests ++ r ∷ []) replies ≡ reply_lines requests replies ++ cons_option (line_of (Some r) (slice_get replies (length (reply_lines requests replies)))) []
lines_more [] [] r = refl
lines_more [] (y ∷ ys) r = refl
lines_more (x ∷ xs) [] r = refl
lines_more (x ∷ xs) (y ∷ ys) r = ap (λ l. line_for x y ∷ l) (lines_more xs ys r)

-- and none where there is no request
pub lines_given : (requests : List Request) (replies : List Reply) (o : Option Request)
    → reply_lines (requests ++ cons_option o []) replies ≡ reply_lines requests replies ++ cons_option (line_of o (slice_get replies (length (reply_lines requests replies)))) []
lines_given requests replies None = ap (λ rs. reply_lines rs replies) (append-nil requests) ∙ sym (append-nil (reply_lines requests replies))
lines_given requests replies (Some r) = lines_more requests replies r

-- the lines of a batch's replies are those of its entries
pub entry_lines_are : (src : Source) (s : State) (place : ℕ) (requests : List Request)
    → reply_lines requests (replies_from place (over (entry_on src s) requests)) ≡ entry_lines place (over (entry_on src s) requests)
entry_lines_are src s place [] = refl
entry_lines_are src s place (r ∷ rs) = ap (λ l. line_for r (record { seq = place; outcome = (entry_on src s r).outcome }) ∷ l) (entry_lines_are src s (place + 1) rs)

-- the replies to entries have their outcomes
pub reply_outcomes : (place : ℕ) (es : List Entry) → over (λ (reply : Reply). reply.outcome) (replies_from place es) ≡ outcomes_of es
reply_outcomes place [] = refl
reply_outcomes place (e ∷ es) = ap (λ l. e.outcome ∷ l) (reply_outcomes (place + 1) es)

pub length-replies_from : (place : ℕ) (es : List Entry) → length (replies_from place es) ≡ length es
length-replies_from place [] = refl
length-replies_from place (e ∷ es) = let later = length-replies_from (place + 1) es in omega arith

-- Failures

failure_count-append : (first rest : List Outcome) → failure_count (first ++ rest) ≡ failure_count first + failure_count rest
failure_count-append [] rest = omega arith
failure_count-append (outcome.Value v ∷ os) rest = failure_count-append os rest
failure_count-append (outcome.Failed f ∷ os) rest = let more = failure_count-append os rest in omega arith

-- a further reply counts where it is a failure
pub failure_more : (replies : List Reply) (i : ℕ) (reply : Reply) → i < length replies → reply ≡ get_or replies i reply
    → failure_count (over (λ (r : Reply). r.outcome) (take (i + 1) replies)) ≡ failure_count (over (λ (r : Reply). r.outcome) (take i replies)) + failure_count (reply.outcome ∷ [])
failure_more replies i reply within is =
    ap failure_count (map_more (λ (r : Reply). r.outcome) replies i reply within ∙ ap (λ (r : Reply). over (λ (r : Reply). r.outcome) (take i replies) ++ r.outcome ∷ []) (sym is))
    ∙ failure_count-append (over (λ (r : Reply). r.outcome) (take i replies)) (reply.outcome ∷ [])
