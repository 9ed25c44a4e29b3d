-- Batches at the end of the input: a loop that runs them until nothing waits does the steps of the end.
use Rattle.std.proofs.Common.{◌≡◌, ℕ, zero, suc, ◌+◌, ◌-◌, ◌<◌, ◌≤◌, ◌^◌, Bool, List, [], ◌∷◌, ◌++◌, Ok, IsErr, length, replicate, refl, sym, ap, ◌∙◌, subst, append_assoc, add-one, arith}
use Rattle.std.proofs.lemmas.List.{map-append, replicate-append-replicate}
use Rattle.std.specs.declared.result.Result.{Result}
use Rattle.request_json.specs.Actions.{Line, whole_lines, all_lines, last_line, rest_from}
use Rattle.batch_output.specs.SerialBatches.{IsLawfulRule}
use Rattle.batch_output.proofs.LawfulBatches.{fewer_wait}
use Rattle.line_answers.specs.Vocabulary.{Core, BatchCounts, Answers, TellsBatch, core_behind, Stop}
use Rattle.line_answers.specs.Services.{Service, program_of}
use Rattle.line_answers.specs.LineAnswers.{batch_on}
use Rattle.session_steps.specs.Steps.{Step, open_at, Answer, RunWaiting, answers, endings, standing_after, last_steps, all_steps, whole_steps}
use Rattle.session_steps.specs.Doings.{Point, going, Does, Comes}
use Rattle.session_steps.proofs.StepFacts.{standing-append}
use Rattle.session_steps.proofs.Composing.{Does-none, Does-then, Comes-then, Comes-cut}
use Rattle.session_steps.proofs.Leaves.{IsCounted, Does-batch, Does-idle}

-- so many steps at the end
abbrev pub runs : ℕ → List Step
runs n = replicate n RunWaiting

pub runs-add : (n k : ℕ) → runs (n + k) ≡ runs n ++ runs k
runs-add n k = sym (replicate-append-replicate n k RunWaiting)

pub answers-append : (xs ys : List Line) → answers (xs ++ ys) ≡ answers xs ++ answers ys
answers-append xs ys = map-append Answer xs ys

module _ (v : Service) (traces : Bool) where
  -- so many batches were run, and each committed a request
  pub record Ending (old new : Point) : Type 0 where
    pub count : ℕ
    pub did : Does v traces (runs count) old new
    pub fewer : length new.core.pending + count ≤ length old.core.pending

  pub Ending-none : (p : Point) → Ending p p
  Ending-none p = record { count = 0; did = Does-none v traces p; fewer = omega arith }

  -- fewer wait behind a batch
  pub fewer_behind : IsLawfulRule v.rule → (old new : Core) → 0 < length old.pending → length old.pending < 2 ^ 32
      → new ≡ core_behind (program_of v) v.rule v.limits old → length new.pending < length old.pending
  fewer_behind lawful old new some few is =
      let fewer = fewer_wait (program_of v) v.rule v.limits lawful old few some in
      let same = ap (λ (c : Core). length c.pending) is in
      omega arith

  -- one batch more
  pub Ending-more : (old p q : Point) → Ending old p → Does v traces (RunWaiting ∷ []) p q → length q.core.pending < length p.core.pending → Ending old q
  Ending-more old p q e d less =
      let count = e.count in
      let fewer : length p.core.pending + count ≤ length old.core.pending = e.fewer in
      record {
        count = count + 1;
        did = subst (λ steps. Does v traces steps old q) (sym (runs-add count 1)) (Does-then v traces (runs count) (RunWaiting ∷ []) old p q e.did d);
        fewer = omega arith;
      }

  pub more_count : (old p q : Point) (e : Ending old p) (d : Does v traces (RunWaiting ∷ []) p q) (less : length q.core.pending < length p.core.pending) → (Ending-more old p q e d less).count ≡ e.count + 1
  unfolding Ending-more
  more_count old p q e d less = refl

  pub Ending-batch : IsLawfulRule v.rule → (counts : BatchCounts) (old p q : Point) → Ending old p → 0 < length p.core.pending
      → length p.core.pending < 2 ^ 32 → q.lines ≡ p.lines
      → Answers (program_of v) v.rule v.limits (Ok counts) p.core q.core p.held q.held
      → TellsBatch (batch_on v.compiled p.core) v.parts (Ok counts) p.outside q.outside → IsCounted traces counts p q → Ending old q
  Ending-batch lawful counts old p q e some few lines a t u =
      Ending-more old p q e (Does-batch v traces counts p q lines some a t u) (fewer_behind lawful p.core q.core some few a.2)

  -- nothing waits any more: further batches do nothing
  idle : (n : ℕ) (p : Point) → length p.core.pending ≡ 0 → Does v traces (runs n) p p
  idle zero p none = Does-none v traces p
  idle (suc n) p none = Does-then v traces (RunWaiting ∷ []) (runs n) p p p (Does-idle v traces p none) (idle n p none)

  over : (k n : ℕ) (old p : Point) → Does v traces (runs k) old p → k ≤ n → length p.core.pending ≡ 0 → Does v traces (runs n) old p
  over k n old p d within none =
      let more : k + (n - k) ≡ n = omega arith in
      subst (λ steps. Does v traces steps old p) (sym (runs-add k (n - k)) ∙ ap runs more)
      (Does-then v traces (runs k) (runs (n - k)) old p p d (idle (n - k) p none))

  pub Ending-over : (old p : Point) → Ending old p → p.core.pending ≡ [] → Does v traces (endings (going old)) old p
  Ending-over old p e empty =
      let none : length p.core.pending ≡ 0 = ap length empty in
      let fewer = e.fewer in
      over e.count (length old.core.pending) old p e.did (omega arith) none

  -- a stop at the next batch
  stop_at : {T : Type 0} (r : Result T Stop) (k n : ℕ) (old p q : Point) → IsErr r → Does v traces (runs k) old p → k + 1 ≤ n
      → Comes v traces r (RunWaiting ∷ []) p q → Comes v traces r (runs n) old q
  stop_at r k n old p q stopped d within c =
      let left = n - k - 1 in
      let more : k + (left + 1) ≡ n = omega arith in
      subst (λ steps. Comes v traces r steps old q) (sym (runs-add k (left + 1)) ∙ ap runs more)
      (subst (λ m. Comes v traces r (runs k ++ runs m) old q) (sym (add-one left))
      (Comes-then v traces r (runs k) (runs (suc left)) old p q d (Comes-cut v traces r (RunWaiting ∷ []) (runs left) p q stopped c)))

  pub Ending-stop : {T : Type 0} (r : Result T Stop) (old p q : Point) → IsErr r → Ending old p → 0 < length p.core.pending
      → Comes v traces r (RunWaiting ∷ []) p q → Comes v traces r (endings (going old)) old q
  Ending-stop r old p q stopped e some c =
      let fewer = e.fewer in
      stop_at r e.count (length old.core.pending) old p q stopped e.did (omega arith) c

  -- Lines, and then the end of the input

  -- a stop at the lines is a stop at them and the end
  pub Last-stop : {T : Type 0} (r : Result T Stop) (lines : List Line) (p q : Point) → IsErr r → Comes v traces r (answers lines) p q
      → Comes v traces r (last_steps v (going p) lines) p q
  Last-stop r lines p q stopped c = Comes-cut v traces r (answers lines) (endings (standing_after v (going p) (answers lines))) p q stopped c

  pub Last-then : {T : Type 0} (r : Result T Stop) (lines : List Line) (p q z : Point) → Does v traces (answers lines) p q
      → Comes v traces r (endings (going q)) q z → Comes v traces r (last_steps v (going p) lines) p z
  Last-then r lines p q z d c =
      subst (λ s. Comes v traces r (answers lines ++ endings s) p z) (sym d.stands) (Comes-then v traces r (answers lines) (endings (going q)) p q z d c)

  -- lines, and then more of them and the end
  pub Last-after : {T : Type 0} (r : Result T Stop) (xs ys : List Line) (p q z : Point) → Does v traces (answers xs) p q
      → Comes v traces r (last_steps v (going q) ys) q z → Comes v traces r (last_steps v (going p) (xs ++ ys)) p z
  Last-after r xs ys p q z d c =
      let stands : standing_after v (going p) (answers (xs ++ ys)) ≡ standing_after v (going q) (answers ys) =
      ap (standing_after v (going p)) (answers-append xs ys) ∙ standing-append v (answers xs) (answers ys) (going p)
      ∙ ap (λ s. standing_after v s (answers ys)) d.stands in
      let end = endings (standing_after v (going q) (answers ys)) in
      subst (λ steps. Comes v traces r steps p z)
      (sym (append_assoc (answers xs) (answers ys) end) ∙ ap (λ l. l ++ end) (sym (answers-append xs ys))
      ∙ ap (λ s. answers (xs ++ ys) ++ endings s) (sym stands))
      (Comes-then v traces r (answers xs) (last_steps v (going q) ys) p q z d c)

  -- the whole lines of an input, and then what is left of it and its end
  pub Comes-all : {T : Type 0} (r : Result T Stop) (bytes : List ℕ) (p q z : Point) → p.lines ≡ 0 → Does v traces (whole_steps bytes) p q
      → Comes v traces r (last_steps v (going q) (last_line (rest_from [] bytes))) q z → Comes v traces r (all_steps v p.core bytes) p z
  Comes-all r bytes p q z first d c =
      subst (λ n. Comes v traces r (last_steps v (open_at p.core n) (all_lines bytes)) p z) first
      (Last-after r (whole_lines bytes) (last_line (rest_from [] bytes)) p q z d c)
