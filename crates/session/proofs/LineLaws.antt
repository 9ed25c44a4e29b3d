-- Laws of lines, and of a session over lines one after the other.
use Rattle.std.proofs.Common.{◌≡◌, ℕ, ◌+◌, Bool, true, false, if◌then◌else◌, List, [], ◌∷◌, ◌++◌, take, refl, sym, ap, ◌∙◌, append_assoc, append-nil}
use Rattle.program_meaning.specs.ClassTables.{Source}
use Rattle.request_json.specs.RequestLines.{longest}
use Rattle.request_json.specs.Actions.{Line, Ended, Left, Refuse, LineTooLong, action_of, used, content_of}
use Rattle.input_lines.specs.Reads.{IsStart}
use Rattle.input_lines.proofs.StartLaws.{start_tells}
use Rattle.session.specs.OutputText.{Standing, reply_to, behind, replies, after, reply, step}
use Rattle.session.specs.Standings.{line_of}

-- the start of a line asks what the line asks
action-start : (src : Source) (ended : Bool) (line : List ℕ) → action_of src (line_of ended (take (longest + 1) line)) ≡ action_of src (line_of ended line)
unfolding action_of
action-start src true line = start_tells longest line (λ l. used src (content_of (Ended l))) (Refuse LineTooLong)
action-start src false line = start_tells longest line (λ l. used src (content_of (Left l))) (Refuse LineTooLong)

module _ (src : Source) (most : ℕ) where
  -- Two lists of lines

  pub replies-append : (xs ys : List Line) (s : Standing) → replies src most s (xs ++ ys) ≡ replies src most s xs ++ replies src most (after src most s xs) ys
  unfolding replies after
  replies-append [] ys s = refl
  replies-append (x ∷ xs) ys s =
      ap (λ l. reply src most s x ++ l) (replies-append xs ys (step src most s x))
      ∙ sym (append_assoc (reply src most s x) (replies src most (step src most s x) xs) (replies src most (after src most (step src most s x) xs) ys))

  pub after-append : (xs ys : List Line) (s : Standing) → after src most s (xs ++ ys) ≡ after src most (after src most s xs) ys
  unfolding after
  after-append [] ys s = refl
  after-append (x ∷ xs) ys s = after-append xs ys (step src most s x)

  pub replies-one : (s : Standing) (line : Line) → replies src most s (line ∷ []) ≡ reply src most s line
  unfolding replies
  replies-one s line = append-nil (reply src most s line)

  pub after-one : (s : Standing) (line : Line) → after src most s (line ∷ []) ≡ step src most s line
  unfolding after
  after-one s line = refl

  pub replies-nil : (s : Standing) → replies src most s [] ≡ []
  unfolding replies
  replies-nil s = refl

  pub after-nil : (s : Standing) → after src most s [] ≡ s
  unfolding after
  after-nil s = refl

  -- A session that has stopped

  step-full : (s : Standing) (line : Line) → s.is_full ≡ true → step src most s line ≡ s
  step-full s line is = ap (λ full. if full then s else behind src most s (action_of src line)) is

  reply-full : (s : Standing) (line : Line) → s.is_full ≡ true → reply src most s line ≡ []
  reply-full s line is = ap (λ full. if full then [] else reply_to src most s.core (s.lines + 1) (action_of src line)) is

  pub after-full : (lines : List Line) (s : Standing) → s.is_full ≡ true → after src most s lines ≡ s
  unfolding after
  after-full [] s is = refl
  after-full (line ∷ lines) s is = ap (λ t. after src most t lines) (step-full s line is) ∙ after-full lines s is

  pub replies-full : (lines : List Line) (s : Standing) → s.is_full ≡ true → replies src most s lines ≡ []
  unfolding replies
  replies-full [] s is = refl
  replies-full (line ∷ lines) s is =
      ap (λ l. l ++ replies src most (step src most s line) lines) (reply-full s line is)
      ∙ ap (λ t. replies src most t lines) (step-full s line is)
      ∙ replies-full lines s is

  -- The start of a line is answered as the line

  pub replies-start : (s : Standing) (ended : Bool) (kept line : List ℕ) → IsStart longest kept line
      → replies src most s (line_of ended kept ∷ []) ≡ replies src most s (line_of ended line ∷ [])
  replies-start s ended kept line start =
      replies-one s (line_of ended kept)
      ∙ ap (λ l. reply src most s (line_of ended l)) start
      ∙ ap (λ a. if s.is_full then [] else reply_to src most s.core (s.lines + 1) a) (action-start src ended line)
      ∙ sym (replies-one s (line_of ended line))

  pub after-start : (s : Standing) (ended : Bool) (kept line : List ℕ) → IsStart longest kept line
      → after src most s (line_of ended kept ∷ []) ≡ after src most s (line_of ended line ∷ [])
  after-start s ended kept line start =
      after-one s (line_of ended kept)
      ∙ ap (λ l. step src most s (line_of ended l)) start
      ∙ ap (λ a. if s.is_full then s else behind src most s a) (action-start src ended line)
      ∙ sym (after-one s (line_of ended line))
