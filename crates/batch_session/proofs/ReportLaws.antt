-- A line or a batch that was done, and what its end came to.
use Rattle.std.proofs.Common.{◌≡◌, ◌≢◌, ◌+◌, ◌<◌, inr, Bool, true, [], ◌∷◌, Some, Ok, Err, length, refl}
use Rattle.std.specs.declared.result.Result.{Result}
use Rattle.std.specs.Io.KnownBytes.{Appends}
use Rattle.sf_outside.specs.Handing.{IsHandedOn}
use Rattle.request_json.specs.Actions.{Line}
use Rattle.session_steps.specs.Vocabulary.{BatchCounts, Answers, TellsBatch, Stop, Service, program_of, before, AnswersLine, batch_on, StaysHanded}
use Rattle.session_steps.specs.StopVariants.{HistoryFull, NoMemory, DiskFault, WriteFault}
use Rattle.session_steps.specs.Steps.{Step, Answer, RunWaiting}
use Rattle.session_steps.specs.StepLaws.{TracedAs}
use Rattle.session_steps.specs.Traces.{with_batch, trace_text}
use Rattle.session_steps.specs.Doings.{Point, moment, Does, StopsAt, Comes}
use Rattle.session_steps.proofs.Composing.{Between-behind}
use Rattle.session_steps.proofs.Leaves.{IsCounted, IsHalfTraced, Does-line, Untraced-line, Does-batch, Untraced-batch, Comes-one}

module _ (v : Service) (traces : Bool) (counts : BatchCounts) where
  -- a batch was flushed and counted, its line was written or not, and perhaps no checkpoint was made where one was due
  pub record Ends (r : Result (Unit {0}) Stop) (old new : Point) : Type 0 where
    pub tally : new.tally ≡ with_batch old.tally counts
    pub traced : TracedAs r old.traced new.traced (trace_text traces old.tally (counts ∷ []))
    pub placed : r ≢ Err HistoryFull
    pub asked : r ≡ Err WriteFault → traces ≡ true
    pub stays : StaysHanded old.handed new.handed
    pub flushed : IsHandedOn new.handed new.held

  -- a step whose batch is over is done in full, but for its line of the trace
  module _ (step : Step) (old new : Point) (did : IsCounted traces counts old new → Does v traces (step ∷ []) old new)
      (untraced : IsHalfTraced traces counts old new → StopsAt v traces WriteFault step old new) (tally : new.tally ≡ with_batch old.tally counts)
      (stays : StaysHanded old.handed new.handed) (flushed : IsHandedOn new.handed new.held) where
    counted : Appends old.traced new.traced (trace_text traces old.tally (counts ∷ [])) → IsCounted traces counts old new
    counted traced = record { tally = tally; traced = traced; stays = stays; flushed = flushed }

    step_ended : (r : Result (Unit {0}) Stop) → TracedAs r old.traced new.traced (trace_text traces old.tally (counts ∷ [])) → r ≢ Err HistoryFull
        → (r ≡ Err WriteFault → traces ≡ true) → Comes v traces r (step ∷ []) old new
    step_ended (Ok value) traced placed asked = did (counted traced)
    step_ended (Err HistoryFull) traced placed asked = absurd (placed refl)
    step_ended (Err NoMemory) traced placed asked = inr (Between-behind v traces (step ∷ []) old new (did (counted traced)))
    step_ended (Err DiskFault) traced placed asked = inr (Between-behind v traces (step ∷ []) old new (did (counted traced)))
    step_ended (Err WriteFault) traced placed asked = Comes-one v traces {T = Unit {0}} (Err WriteFault) WriteFault step old new refl
        (untraced (record { asked = asked refl; tally = tally; part = traced; stays = stays; flushed = flushed }))

  -- behind a line
  pub Line-ended : (r : Result (Unit {0}) Stop) (line : Line) (old new : Point) → new.lines ≡ old.lines + 1 → AnswersLine v (Ok (Some counts)) (before old.core (old.lines + 1)) line (moment old) (moment new)
      → Ends r old new → Comes v traces r (Answer line ∷ []) old new
  Line-ended r line old new lines a end = step_ended (Answer line) old new (Does-line v traces (Some counts) line old new lines a) (Untraced-line v traces counts line old new a)
      end.tally end.stays end.flushed r end.traced end.placed end.asked

  -- behind a batch of what waits
  pub Batch-ended : (r : Result (Unit {0}) Stop) (old new : Point) → new.lines ≡ old.lines → 0 < length old.core.pending → Answers (program_of v) v.rule v.limits (Ok counts) old.core new.core old.held new.held
      → TellsBatch (batch_on v.compiled old.core) v.parts (Ok counts) old.outside new.outside → Ends r old new → Comes v traces r (RunWaiting ∷ []) old new
  Batch-ended r old new lines some a told end = step_ended RunWaiting old new (Does-batch v traces counts old new lines some a told) (Untraced-batch v traces counts old new some a told)
      end.tally end.stays end.flushed r end.traced end.placed end.asked
