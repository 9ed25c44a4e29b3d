-- One step that was done, or at which the session stopped: from what a line or a batch came to.
use Rattle.std.proofs.Common.{◌≡◌, ℕ, ◌+◌, ◌-◌, ◌<◌, inl, inr, Bool, true, false, Option, Some, None, List, [], ◌∷◌, Ok, Err, length, refl, sym, ap, ◌∙◌, subst, arith}
use Rattle.std.proofs.lemmas.Bool.Decides.{nat_tests}
use Rattle.std.specs.declared.result.Result.{Result}
use Rattle.std.specs.Io.KnownBytes.{Appends}
use Rattle.std.proofs.KnownBytes.{Appends-nil}
use Rattle.sf_outside.specs.Bytes.{AppendsPrefix}
use Rattle.sf_outside.specs.Gains.{joined}
use Rattle.sf_outside.specs.Handing.{IsHandedOn}
use Rattle.sf_outside.proofs.GainLaws.{joined-nil, joined_one}
use Rattle.request_json.specs.Actions.{Line, Action, action_of}
use Rattle.batch_output.specs.BatchOutput.{Standing, waits, answer, taken, is_due}
use Rattle.line_answers.specs.Vocabulary.{Core, BatchCounts, Answers, StaysHanded, TellsBatch, core_behind, Stop}
use Rattle.line_answers.specs.StopVariants.{HistoryFull, NoMemory, DiskFault, WriteFault}
use Rattle.line_answers.specs.Services.{Service, program_of}
use Rattle.line_answers.specs.LineAnswers.{before, Move, Moment, Moves, IsUntaken, FindsFull, IsUnplanned, IsUnlogged, AnswersLine, batch_on, line_result}
use Rattle.line_answers.proofs.Vocabulary.{stays_none}
use Rattle.line_answers.proofs.TakenLaws.{batch_moved}
use Rattle.session_steps.specs.declared.tally.Tally.{Tally}
use Rattle.session_steps.specs.Steps.{Step, open_at, Answer, RunWaiting, move_of, printed, ran_on}
use Rattle.session_steps.specs.Traces.{with_batch, trace_line, trace_lines, trace_text}
use Rattle.session_steps.specs.Flushing.{FlushesBatches}
use Rattle.session_steps.specs.Doings.{Point, going, moment, RunBatches, IsUncounted, Does, StopsAt, Comes}
use Rattle.session_steps.proofs.FlushLaws.{flushes_none, flushes_one}
use Rattle.session_steps.proofs.StepFacts.{lines_behind, printed_undue, behind_undue, ran_undue, printed_placed, behind_placed, ran_placed, standing-one, printed-one, ran-one}
use Rattle.session_steps.proofs.Composing.{tally-nil, tally-one, trace-nil, Does-none, Comes-at}

-- What is counted and traced of a step

-- its batch was counted, and traced where that is asked for, and the output was flushed behind it
pub record IsCounted (traces : Bool) (counts : BatchCounts) (old new : Point) : Type 0 where
  pub tally : new.tally ≡ with_batch old.tally counts
  pub traced : Appends old.traced new.traced (trace_text traces old.tally (counts ∷ []))
  pub stays : StaysHanded old.handed new.handed
  pub flushed : IsHandedOn new.handed new.held

-- or it was traced in part
pub record IsHalfTraced (traces : Bool) (counts : BatchCounts) (old new : Point) : Type 0 where
  pub asked : traces ≡ true
  pub tally : new.tally ≡ with_batch old.tally counts
  pub part : AppendsPrefix old.traced new.traced (trace_text traces old.tally (counts ∷ []))
  pub stays : StaysHanded old.handed new.handed
  pub flushed : IsHandedOn new.handed new.held

-- or there was none
abbrev pub Counts : Bool → Option BatchCounts → Point → Point → Type 0
Counts traces None old new = IsUncounted old new
Counts traces (Some counts) old new = IsCounted traces counts old new

-- the trace of one batch, where batches are traced
pub trace_on : (traces : Bool) (t : Tally) (counts : BatchCounts) → traces ≡ true
    → trace_text traces t (counts ∷ []) ≡ trace_line (with_batch t counts).batches counts
unfolding trace_lines
trace_on true t counts on = joined_one (trace_line (with_batch t counts).batches counts)
trace_on false t counts on = cc

module _ (v : Service) (traces : Bool) where
  -- A step

  abbrev move_from : Point → Step → Move
  move_from p step = move_of v (going p) step

  opened : (core core' : Core) (n n' : ℕ) → core' ≡ core → n' ≡ n → open_at core n ≡ open_at core' n'
  opened core core' n n' same count = sym (ap (λ c. open_at c n') same ∙ ap (open_at core) count)

  -- what a step whose batch was committed printed, the core that the batch ran on, and what is handed on where the output was flushed behind it
  committed_text : (counts : BatchCounts) (step : Step) (old new : Point) → Moves v (Ok (Some counts)) (move_from old step) (moment old) (moment new)
      → Appends old.held new.held (joined (printed v (going old) (step ∷ [])))
  committed_text counts step old new a = subst (λ l. Appends old.held new.held (joined l))
      (sym (printed-one v (going old) step ∙ printed_placed v old.core old.lines step a.due)) a.wrote

  committed_core : (counts : BatchCounts) (step : Step) (old new : Point) → Moves v (Ok (Some counts)) (move_from old step) (moment old) (moment new)
      → ran_on v (going old) (step ∷ []) ≡ (move_from old step).core ∷ []
  committed_core counts step old new a = ran-one v (going old) step ∙ ran_placed v old.core old.lines step a.due a.place

  flushed_step : (counts : BatchCounts) (step : Step) (old new : Point) → Moves v (Ok (Some counts)) (move_from old step) (moment old) (moment new)
      → StaysHanded old.handed new.handed → IsHandedOn new.handed new.held → FlushesBatches v (step ∷ []) (going old) 1 old.held old.handed new.handed
  flushed_step counts step old new a stays all =
      flushes_one v (going old) old.held step old.handed new.handed new.held (ap length (committed_core counts step old new a)) (committed_text counts step old new a) all stays

  -- the step was done: no batch was due, or it was committed
  pub Does-step : (counts : Option BatchCounts) (step : Step) (old new : Point) → new.lines ≡ lines_behind old.lines step
      → Moves v (Ok counts) (move_from old step) (moment old) (moment new) → Counts traces counts old new → Does v traces (step ∷ []) old new
  Does-step None step old new lines a u =
      let m = move_from old step in
      record {
        stands = standing-one v (going old) step ∙ behind_undue v old.core old.lines step a.undue
            ∙ opened m.core new.core (lines_behind old.lines step) new.lines a.core lines;
        wrote = subst (λ l. Appends old.held new.held (joined l))
            (sym (printed-one v (going old) step ∙ printed_undue v old.core old.lines step a.undue)) a.wrote;
        counts = [];
        ran = subst (λ cores. RunBatches v cores [] old.outside new.outside)
            (sym (ran-one v (going old) step ∙ ran_undue v old.core old.lines step a.undue)) a.untold;
        tally = u.tally ∙ sym (tally-nil old.tally);
        traced = subst (λ t. Appends old.traced t (trace_text traces old.tally [])) (sym u.traced)
            (subst (Appends old.traced old.traced) (sym (trace-nil traces old.tally)) (Appends-nil old.traced));
        flushes = flushes_none v (going old) old.held (step ∷ []) old.handed new.handed u.stays;
      }
  Does-step (Some counts) step old new lines a u =
      let m = move_from old step in
      record {
        stands =
            standing-one v (going old) step ∙ behind_placed v old.core old.lines step a.due a.place
            ∙ opened (core_behind (program_of v) v.rule v.limits m.core) new.core (lines_behind old.lines step) new.lines a.core lines;
        wrote = committed_text counts step old new a;
        counts = counts ∷ [];
        ran =
            subst (λ cores. RunBatches v cores (counts ∷ []) old.outside new.outside)
            (sym (committed_core counts step old new a))
            (new.outside, a.ran, refl);
        tally = u.tally ∙ sym (tally-one old.tally counts);
        traced = u.traced;
        flushes = flushed_step counts step old new a u.stays u.flushed;
      }

  -- the session stopped at the step, and counted nothing
  pub Stops-step : (stop : Stop) (step : Step) (old new : Point) → Moves v (Err stop) (move_from old step) (moment old) (moment new)
      → IsUncounted old new → StopsAt v traces stop step old new
  Stops-step HistoryFull step old new a u = (a, u)
  Stops-step NoMemory step old new a u = (inr a, u)
  Stops-step DiskFault step old new a u = (a, u)
  Stops-step WriteFault step old new a u = inl (a, u)

  -- its batch was committed, and the line of its trace was written in part
  pub Stops-untraced : (counts : BatchCounts) (step : Step) (old new : Point) → Moves v (Ok (Some counts)) (move_from old step) (moment old) (moment new)
      → IsHalfTraced traces counts old new → StopsAt v traces WriteFault step old new
  Stops-untraced counts step old new a u =
      inr (record { asked = u.asked; counts = counts; committed = a; tally = u.tally; part = u.part; flushes = flushed_step counts step old new a u.stays u.flushed })

  -- A stop at one step is one of it alone

  pub Comes-one : {T : Type 0} (r : Result T Stop) (stop : Stop) (step : Step) (old new : Point) → r ≡ Err stop → StopsAt v traces stop step old new
      → Comes v traces r (step ∷ []) old new
  Comes-one r stop step old new is s = Comes-at v traces r stop [] [] step old old new is (Does-none v traces old) s

  -- A line

  before_is : (p : Point) → before p.core (p.lines + 1) ≡ going p
  before_is p = let same : p.lines + 1 - 1 ≡ p.lines = omega arith in ap (open_at p.core) same

  abbrev LineComes : Result (Option BatchCounts) Stop → Line → Point → Point → Type 0
  LineComes r line old new = AnswersLine v r (before old.core (old.lines + 1)) line (moment old) (moment new)

  pub Does-line : (counts : Option BatchCounts) (line : Line) (old new : Point) → new.lines ≡ old.lines + 1
      → AnswersLine v (Ok counts) (before old.core (old.lines + 1)) line (moment old) (moment new)
      → Counts traces counts old new → Does v traces (Answer line ∷ []) old new
  Does-line counts line old new lines a u =
      Does-step counts (Answer line) old new lines (subst (λ s. AnswersLine v (Ok counts) s line (moment old) (moment new)) (before_is old) a) u

  stops_line : (stop : Stop) (line : Line) (old new : Point) → AnswersLine v (Err stop) (going old) line (moment old) (moment new) → IsUncounted old new
      → StopsAt v traces stop (Answer line) old new
  stops_line HistoryFull line old new a u = (a, u)
  stops_line NoMemory line old new (inl a) u = (inl a, u)
  stops_line NoMemory line old new (inr a) u = (inr a, u)
  stops_line DiskFault line old new a u = (a, u)
  stops_line WriteFault line old new a u = inl (a, u)

  pub Stops-line : (stop : Stop) (line : Line) (old new : Point)
      → AnswersLine v (Err stop) (before old.core (old.lines + 1)) line (moment old) (moment new) → IsUncounted old new
      → StopsAt v traces stop (Answer line) old new
  Stops-line stop line old new a u = stops_line stop line old new (subst (λ s. AnswersLine v (Err stop) s line (moment old) (moment new)) (before_is old) a) u

  pub Untraced-line : (counts : BatchCounts) (line : Line) (old new : Point)
      → AnswersLine v (Ok (Some counts)) (before old.core (old.lines + 1)) line (moment old) (moment new) → IsHalfTraced traces counts old new
      → StopsAt v traces WriteFault (Answer line) old new
  Untraced-line counts line old new a u =
      Stops-untraced counts (Answer line) old new (subst (λ s. AnswersLine v (Ok (Some counts)) s line (moment old) (moment new)) (before_is old) a) u

  -- A batch of what waits, at the end of the input

  nothing : (a : Option (List ℕ)) → Appends a a (joined [])
  nothing a = subst (Appends a a) (sym joined-nil) (Appends-nil a)

  -- from what the batch came to and told
  pub Moves-waiting : (result : Result BatchCounts Stop) (old new : Point) → waits old.core ≡ true
      → Answers (program_of v) v.rule v.limits result old.core new.core old.held new.held
      → TellsBatch (batch_on v.compiled old.core) v.parts result old.outside new.outside
      → Moves v (line_result result) (move_from old RunWaiting) (moment old) (moment new)
  Moves-waiting result old new some a t = batch_moved v result (move_from old RunWaiting) (moment old) (moment new) old.held some (nothing old.held) a t

  pub some_waits : (core : Core) → 0 < length core.pending → waits core ≡ true
  some_waits core some = grind (arith, nat_tests)

  pub none_waits : (core : Core) → length core.pending ≡ 0 → waits core ≡ false
  none_waits core none = grind (arith, nat_tests)

  pub Does-batch : (counts : BatchCounts) (old new : Point) → new.lines ≡ old.lines → 0 < length old.core.pending
      → Answers (program_of v) v.rule v.limits (Ok counts) old.core new.core old.held new.held
      → TellsBatch (batch_on v.compiled old.core) v.parts (Ok counts) old.outside new.outside → IsCounted traces counts old new
      → Does v traces (RunWaiting ∷ []) old new
  Does-batch counts old new lines some a t u = Does-step (Some counts) RunWaiting old new lines
      (Moves-waiting (Ok counts) old new (some_waits old.core some) a t) u

  pub Stops-batch : (stop : Stop) (old new : Point) → 0 < length old.core.pending
      → Answers (program_of v) v.rule v.limits (Err stop) old.core new.core old.held new.held
      → TellsBatch (batch_on v.compiled old.core) v.parts (Err stop) old.outside new.outside → IsUncounted old new
      → StopsAt v traces stop RunWaiting old new
  Stops-batch stop old new some a t u = Stops-step stop RunWaiting old new (Moves-waiting (Err stop) old new (some_waits old.core some) a t) u

  pub Untraced-batch : (counts : BatchCounts) (old new : Point) → 0 < length old.core.pending
      → Answers (program_of v) v.rule v.limits (Ok counts) old.core new.core old.held new.held
      → TellsBatch (batch_on v.compiled old.core) v.parts (Ok counts) old.outside new.outside → IsHalfTraced traces counts old new
      → StopsAt v traces WriteFault RunWaiting old new
  Untraced-batch counts old new some a t u = Stops-untraced counts RunWaiting old new (Moves-waiting (Ok counts) old new (some_waits old.core some) a t) u

  -- where nothing waits it does nothing
  pub Does-idle : (p : Point) → length p.core.pending ≡ 0 → Does v traces (RunWaiting ∷ []) p p
  Does-idle p none = Does-step None RunWaiting p p refl (record { undue = none_waits p.core none; core = refl; wrote = nothing p.held; untold = refl })
      (record { tally = refl; traced = refl; stays = stays_none p.handed })

-- A line that asks the same

module _ (v : Service) where
  abbrev move_by : Standing → Action → Move
  move_by s action =
      record { answer = answer s.core (s.lines + 1) action; core = taken s.core action; is_due = is_due (program_of v) v.rule v.limits s.core action }

  pub move_as : (s : Standing) (line line' : Line) → action_of (program_of v) line ≡ action_of (program_of v) line'
      → move_of v s (Answer line) ≡ move_of v s (Answer line')
  move_as s line line' same = ap (move_by s) same

  -- is answered the same
  pub Line-as : (r : Result (Option BatchCounts) Stop) (s : Standing) (line line' : Line) (old new : Moment)
      → action_of (program_of v) line ≡ action_of (program_of v) line'
      → AnswersLine v r s line old new → AnswersLine v r s line' old new
  Line-as (Ok counts) s line line' old new same a = subst (λ m. Moves v (Ok counts) m old new) (move_as s line line' same) a
  Line-as (Err HistoryFull) s line line' old new same a = subst (λ m. FindsFull v m old new) (move_as s line line' same) a
  Line-as (Err NoMemory) s line line' old new same (inl a) = inl (subst (λ m. IsUntaken s m old new) (move_as s line line' same) a)
  Line-as (Err NoMemory) s line line' old new same (inr a) = inr (subst (λ m. IsUnplanned v m old new) (move_as s line line' same) a)
  Line-as (Err DiskFault) s line line' old new same a = subst (λ m. IsUnlogged v m old new) (move_as s line line' same) a
  Line-as (Err WriteFault) s line line' old new same a = subst (λ m. Moves v (Err WriteFault) m old new) (move_as s line line' same) a
