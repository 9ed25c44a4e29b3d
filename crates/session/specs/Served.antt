-- What a session has written for the input that it took.
use Rattle.std.specs.Prelude.{◌≡◌, ℕ, ◌+◌, ◌≤◌, ◌⊎◌, List, [], ◌∷◌, length, take, Ok, Err}
use Rattle.std.specs.declared.option.Option.{Option}
use Rattle.std.specs.declared.result.Result.{Result}
use Rattle.std.specs.Io.KnownBytes.{Consumes, IsAtEnd}
use Rattle.sf_outside.specs.Bytes.{AppendsPrefix}
use Rattle.sf_outside.specs.Gains.{joined}
use Rattle.program_meaning.specs.ClassTables.{Source}
use Rattle.request_json.specs.Actions.{Line, whole_lines, all_lines}
use Rattle.session.specs.declared.feeding.InputEnd.{InputEnd}
use Rattle.session.specs.declared.feeding.InputEnd.TheVariants.{End, ReadFault, TooLong}
use Rattle.session.specs.declared.stopping.SessionStop.{SessionStop}
use Rattle.session.specs.declared.stopping.SessionStop.TheVariants.{WriteFault}
use Rattle.session.specs.OutputText.{replies, after, start, output_text}
use Rattle.session.specs.Stops.{Wrote, FindsFull}

-- a program is served with so many entries in the history at most, and so many bytes of input
module _ (src : Source) (limit most : ℕ) where
  -- these bytes were taken, at most so many, and these of their lines were answered from the empty state, up to the one that finds the
  -- history full
  pub record Answered {T : Type 0} (lines : List ℕ → List Line) (result : Result T SessionStop) (left left' held held' : Option (List ℕ)) : Type 0 where
    pub taken : List ℕ
    pub consumed : Consumes left left' taken
    pub within : length taken ≤ limit
    pub wrote : Wrote result held held' (replies src most start (lines taken))
    pub full : FindsFull result (after src most start (lines taken)).is_full

  -- more bytes than the limit came: the whole lines of so many were answered, and exactly one byte more was taken
  pub record AnsweredOver (result : Result InputEnd SessionStop) (left left' held held' : Option (List ℕ)) : Type 0 where
    pub before : Option (List ℕ)
    pub answered : Answered {T = InputEnd} whole_lines result left before held held'
    pub full : length answered.taken ≡ limit
    pub next : ℕ
    pub beyond : Consumes before left' (next ∷ [])

-- it stopped in the answers to the whole lines of what was taken; or, where the input had ended, in those to all its lines; or the last
-- flush failed behind too long an input
pub data AnsweredPart (src : Source) (limit most : ℕ) (stop : SessionStop) (left left' held held' : Option (List ℕ)) : Type 0 where
  OfWhole : Answered src limit most {T = InputEnd} whole_lines (Err stop) left left' held held' → AnsweredPart src limit most stop left left' held held'
  OfAll : Answered src limit most {T = InputEnd} all_lines (Err stop) left left' held held' → IsAtEnd left'
      → AnsweredPart src limit most stop left left' held held'
  OfLimit : stop ≡ WriteFault → AnsweredOver src limit most (Err stop) left left' held held' → AnsweredPart src limit most stop left left' held held'

module _ (src : Source) (limit most : ℕ) where
  -- at the end all lines; at a fault or past the limit the whole ones; else up to where it stopped
  abbrev pub Served : Option (List ℕ) → Option (List ℕ) → Option (List ℕ) → Option (List ℕ) → Result InputEnd SessionStop → Type 0
  Served left left' held held' (Ok End) = Answered src limit most {T = InputEnd} all_lines (Ok End) left left' held held' × IsAtEnd left'
  Served left left' held held' (Ok ReadFault) = Answered src limit most {T = InputEnd} whole_lines (Ok ReadFault) left left' held held'
  Served left left' held held' (Ok TooLong) = AnsweredOver src limit most (Ok TooLong) left left' held held'
  Served left left' held held' (Err stop) = AnsweredPart src limit most stop left left' held held'

  -- whatever the result: these bytes were taken, at most one more than the limit, and a prefix of the replies to the whole lines of
  -- the first so many was written; or, where the input had ended, of those to all its lines
  pub record AnsweredTaken (left left' held held' : Option (List ℕ)) : Type 0 where
    pub taken : List ℕ
    pub consumed : Consumes left left' taken
    pub within : length taken ≤ limit + 1
    pub wrote : AppendsPrefix held held' (joined (replies src most start (whole_lines (take limit taken))))
        ⊎ ((length taken ≤ limit) × IsAtEnd left' × AppendsPrefix held held' (output_text src most taken))

-- whatever the result of a session that served so, it answered what it took
abbrev pub AnswersWhatWasTaken : Type 0
AnswersWhatWasTaken = (src : Source) (limit most : ℕ) (left left' held held' : Option (List ℕ)) (result : Result InputEnd SessionStop)
    → Served src limit most left left' held held' result → AnsweredTaken src limit most left left' held held'
