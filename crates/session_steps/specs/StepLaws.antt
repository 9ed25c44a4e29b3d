-- What steps print is what a session in batches prints; and what a session has come to, wherever it stopped.
use Rattle.std.specs.Prelude.{◌≡◌, ℕ, ◌+◌, ◌⊎◌, Bool, true, List, [], ◌∷◌, ◌++◌, length, take, Ok, Err, ⊤}
use Rattle.std.specs.declared.option.Option.{Option}
use Rattle.std.specs.declared.result.Result.{Result}
use Rattle.std.specs.Io.KnownBytes.{Appends}
use Rattle.sf_outside.specs.Bytes.{AppendsPrefix}
use Rattle.sf_outside.specs.Gains.{joined}
use Rattle.request_json.specs.Actions.{Line, all_lines}
use Rattle.operator_graph.specs.Turns.{Outside}
use Rattle.batch_output.specs.BatchOutput.{Standing, begun, after, replies, at_end, all_replies}
use Rattle.line_answers.specs.Vocabulary.{Core, BatchCounts, Stop}
use Rattle.line_answers.specs.StopVariants.{HistoryFull, NoMemory, DiskFault, WriteFault}
use Rattle.line_answers.specs.Services.{Service, program_of}
use Rattle.session_steps.specs.Steps.{Step, answers, all_steps, move_of, standing_after, printed, ran_on}
use Rattle.session_steps.specs.Flushing.{FlushesBatches}
use Rattle.session_steps.specs.Traces.{tally_after, trace_text}
use Rattle.session_steps.specs.Doings.{Point, going, RunBatches, BeginBatches, Comes}

-- What steps print

-- the steps of lines print their replies, and lead to where the session stands behind them
pub record AnswersPrint (v : Service) (s : Standing) (lines : List Line) : Type 0 where
  pub stands : standing_after v s (answers lines) ≡ after (program_of v) v.rule v.limits s lines
  pub prints : printed v s (answers lines) ≡ replies (program_of v) v.rule v.limits s lines

-- and so do those of a whole input, its end with them
pub record InputPrints (v : Service) (core : Core) (bytes : List ℕ) : Type 0 where
  pub stands : standing_after v (begun core) (all_steps v core bytes)
      ≡ at_end (program_of v) v.rule v.limits (after (program_of v) v.rule v.limits (begun core) (all_lines bytes))
  pub prints : printed v (begun core) (all_steps v core bytes) ≡ all_replies (program_of v) v.rule v.limits core bytes

abbrev pub StepsPrint : Type 0
StepsPrint = (v : Service) → ((s : Standing) (lines : List Line) → AnswersPrint v s lines) × ((core : Core) (bytes : List ℕ) → InputPrints v core bytes)

-- What a session has come to

-- the text of what they print was written; where it stopped for want of memory or at a fault, a prefix of it
abbrev pub WroteAs : {T : Type 0} → Result T Stop → Option (List ℕ) → Option (List ℕ) → List ℕ → Type 0
WroteAs (Ok value) old new text = Appends old new text
WroteAs (Err HistoryFull) old new text = Appends old new text
WroteAs (Err NoMemory) old new text = AppendsPrefix old new text
WroteAs (Err DiskFault) old new text = AppendsPrefix old new text
WroteAs (Err WriteFault) old new text = AppendsPrefix old new text

-- where memory was wanted or the disk failed whole lines stand on its output
abbrev pub WholeAs : {T : Type 0} → Result T Stop → Option (List ℕ) → Option (List ℕ) → List (List ℕ) → Type 0
WholeAs (Ok value) old new lines = ⊤
WholeAs (Err HistoryFull) old new lines = ⊤
WholeAs (Err NoMemory) old new lines = (k : ℕ) × Appends old new (joined (take k lines))
WholeAs (Err DiskFault) old new lines = (k : ℕ) × Appends old new (joined (take k lines))
WholeAs (Err WriteFault) old new lines = ⊤

-- their batches were told; where it stopped for want of memory or at a fault, some first ones, and perhaps some events of the next
abbrev pub ToldAs : {T : Type 0} → Service → Result T Stop → List Core → List BatchCounts → Outside → Outside → Type 0
ToldAs v (Ok value) cores counts old new = RunBatches v cores counts old new
ToldAs v (Err HistoryFull) cores counts old new = RunBatches v cores counts old new
ToldAs v (Err NoMemory) cores counts old new = BeginBatches v cores counts old new
ToldAs v (Err DiskFault) cores counts old new = BeginBatches v cores counts old new
ToldAs v (Err WriteFault) cores counts old new = BeginBatches v cores counts old new

-- the lines of those that were counted were traced; at a write fault perhaps a part of them
abbrev pub TracedAs : {T : Type 0} → Result T Stop → Option (List ℕ) → Option (List ℕ) → List ℕ → Type 0
TracedAs (Ok value) old new text = Appends old new text
TracedAs (Err HistoryFull) old new text = Appends old new text
TracedAs (Err NoMemory) old new text = Appends old new text
TracedAs (Err DiskFault) old new text = Appends old new text
TracedAs (Err WriteFault) old new text = AppendsPrefix old new text

-- where it stands is where they lead; or the history is full there
abbrev pub StandsAs : {T : Type 0} → Result T Stop → Standing → Standing → Type 0
StandsAs (Ok value) stands new = stands ≡ new
StandsAs (Err HistoryFull) stands new = stands.is_full ≡ true
StandsAs (Err NoMemory) stands new = ⊤
StandsAs (Err DiskFault) stands new = ⊤
StandsAs (Err WriteFault) stands new = ⊤

-- behind some steps this core has what the next of these leaves before its batch
abbrev pub IsAtNext : Service → Standing → List Step → Core → Type 0
IsAtNext v behind [] core = ⊥
IsAtNext v behind (step ∷ rest) core = core ≡ (move_of v behind step).core

-- so many batches were counted of as many as were committed; where something couldn't be written perhaps one less
abbrev pub AreCounted : {T : Type 0} → Result T Stop → ℕ → ℕ → Type 0
AreCounted (Ok value) counted ran = counted ≡ ran
AreCounted (Err HistoryFull) counted ran = counted ≡ ran
AreCounted (Err NoMemory) counted ran = counted ≡ ran
AreCounted (Err DiskFault) counted ran = counted ≡ ran
AreCounted (Err WriteFault) counted ran = (counted ≡ ran) ⊎ (counted + 1 ≡ ran)

-- the last core is the one behind some first ones of these steps, or has the request of the next one besides; and this holds of how many batches the
-- first ones ran
pub record EndsAmong (v : Service) (steps : List Step) (old : Standing) (last : Core) (Ran : ℕ → Type 0) : Type 0 where
  pub first : List Step
  pub rest : List Step
  pub split : steps ≡ first ++ rest
  pub core : (last ≡ (standing_after v old first).core) ⊎ IsAtNext v (standing_after v old first) rest last
  pub ran : Ran (length (ran_on v old first))

-- Batches are traced, all that ran were counted, and the text of all but the last was traced, and perhaps more: the line of the last couldn't be written.
pub record LacksALine (traces : Bool) (text : List BatchCounts → List ℕ) (counts : List BatchCounts) (ran : ℕ) (old new : Option (List ℕ)) : Type 0 where
  pub asked : traces ≡ true
  pub all : length counts ≡ ran
  pub first : List BatchCounts
  pub last : BatchCounts
  pub split : counts ≡ first ++ last ∷ []
  pub more : List ℕ
  pub wrote : Appends old new (text first ++ more)

-- a first part of what the steps print was printed, and of their batches some first ones were run, told, counted and traced; all of it where the
-- steps were done or the history was full. The tally is that of those that were counted, and the output was flushed behind the last of them. Of the lines
-- of those the trace lacks one at most.
pub record HasBegun {T : Type 0} (v : Service) (traces : Bool) (result : Result T Stop) (steps : List Step) (old new : Point) : Type 0 where
  pub stands : StandsAs result (standing_after v (going old) steps) (going new)
  pub wrote : WroteAs result old.held new.held (joined (printed v (going old) steps))
  pub whole : WholeAs result old.held new.held (printed v (going old) steps)
  pub counts : List BatchCounts
  pub told : ToldAs v result (ran_on v (going old) steps) counts old.outside new.outside
  pub traced : TracedAs result old.traced new.traced (trace_text traces old.tally counts)
  pub tally : new.tally ≡ tally_after old.tally counts
  pub flushes : FlushesBatches v steps (going old) (length counts) old.held old.handed new.handed
  pub ended : EndsAmong v steps (going old) new.core (AreCounted result (length counts))
  pub lacks : Appends old.traced new.traced (trace_text traces old.tally counts)
      ⊎ LacksALine traces (trace_text traces old.tally) counts (length (ran_on v (going old) ended.first)) old.traced new.traced

abbrev pub ComesBegin : Type 0
ComesBegin = (v : Service) (traces : Bool) (result : Result (Unit {0}) Stop) (steps : List Step) (old new : Point)
    → Comes v traces result steps old new → HasBegun v traces result steps old new
