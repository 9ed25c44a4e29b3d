-- What a run takes of its input and prints, by its result, and the core that it leaves.
use Rattle.std.specs.Prelude.{◌≡◌, ℕ, ◌+◌, ◌≤◌, ◌⊎◌, Bool, true, false, nat_le, List, [], ◌++◌, length, take, Ok, Err, if◌then◌else◌}
use Rattle.std.specs.declared.option.Option.{Option}
use Rattle.std.specs.declared.result.Result.{Result}
use Rattle.std.specs.Io.KnownBytes.{Appends, IsAtEnd}
use Rattle.sf_outside.specs.Bytes.{AppendsPrefix}
use Rattle.sf_outside.specs.Gains.{joined}
use Rattle.program_meaning.specs.ClassTables.{Source}
use Rattle.request_json.specs.Actions.{whole_lines, all_lines}
use Rattle.engine.specs.Cores.{Core}
use Rattle.batch_output.specs.BatchOutput.{Standing, begun, after, replies, all_replies, output_text}
use Rattle.batch_output.specs.BatchesEnd.{last_standing}
use Rattle.batch_output.specs.SerialBatches.{PrintsSerially}
use Rattle.batch_session.specs.Vocabulary.{next_core, Tally}
use Rattle.batch_session.specs.declared.serving.SessionFault.{SessionFault}
use Rattle.batch_session.specs.declared.serving.SessionFault.TheVariants.{ReadFault, WriteFault, DiskFault, InputTooLong, HistoryFull, NoMemory}
use Rattle.batch_run.specs.RunViews.{run_limits, rule_of}
use Rattle.batch_run.specs.declared.running.RunSettings.{RunSettings}

module _ (src : Source) (s : RunSettings) (start : Core) where
  -- how a run that begins with this core stands behind the whole lines of these bytes, and behind all of them and their end
  abbrev pub stands_behind : List ℕ → Standing
  stands_behind bytes = after src (rule_of s) (run_limits s) (begun start) (whole_lines bytes)

  abbrev pub stands_at_end : List ℕ → Standing
  stands_at_end bytes = last_standing src (rule_of s) (run_limits s) start (all_lines bytes)

  -- the replies to the whole lines, and their text; and the text of those to all lines and at the end
  abbrev pub whole_replies : List ℕ → List (List ℕ)
  whole_replies bytes = replies src (rule_of s) (run_limits s) (begun start) (whole_lines bytes)

  abbrev pub whole_text : List ℕ → List ℕ
  whole_text bytes = joined (whole_replies bytes)

  abbrev pub all_text : List ℕ → List ℕ
  all_text bytes = output_text src (rule_of s) (run_limits s) start bytes

  -- whether the history comes to be full: at a line of the first bytes, as many as may come; or at the end of an input that has no more
  abbrev pub fills_history : List ℕ → Bool
  fills_history all = if nat_le (length all) s.limit then (stands_at_end all).is_full else (stands_behind (take s.limit all)).is_full

  -- What is left of an input behind a run; what an output holds, before it and behind it; and what was taken

  module _ (left' held held' : Option (List ℕ)) (taken : List ℕ) where
    -- a part of the replies to the whole lines of what was taken, or where the input had ended to all of it, was written
    pub record AnswersInPart : Type 0 where
      pub within : length taken ≤ s.limit + 1
      pub wrote : AppendsPrefix held held' (whole_text (take s.limit taken))
          ⊎ ((length taken ≤ s.limit) × IsAtEnd left' × AppendsPrefix held held' (all_text taken))

    -- the run stopped among them: the first lines of such replies were written, each whole
    pub record AnswersSome : Type 0 where
      pub within : length taken ≤ s.limit
      pub count : ℕ
      pub wrote : Appends held held' (joined (take count (whole_replies taken)))
          ⊎ (IsAtEnd left' × Appends held held' (joined (take count (all_replies src (rule_of s) (run_limits s) start taken))))

    -- And this core is there behind it

    module _ (last : Core) where
      -- the whole input was taken and answered, and nothing waits any more
      pub record AnswersAll : Type 0 where
        pub within : length taken ≤ s.limit
        pub ended : IsAtEnd left'
        pub wrote : Appends held held' (all_text taken)
        pub goes_on : (stands_at_end taken).is_full ≡ false
        pub core : (stands_at_end taken).core ≡ last
        pub none_waits : last.pending ≡ []

      -- the whole lines of what was taken were answered
      pub record AnswersWhole : Type 0 where
        pub within : length taken ≤ s.limit
        pub wrote : Appends held held' (whole_text taken)
        pub goes_on : (stands_behind taken).is_full ≡ false
        pub core : (stands_behind taken).core ≡ last

      -- as many bytes were taken as may come, and then one more; the whole lines of the first were answered
      pub record AnswersFirst : Type 0 where
        pub full : length taken ≡ s.limit + 1
        pub wrote : Appends held held' (whole_text (take s.limit taken))
        pub goes_on : (stands_behind (take s.limit taken)).is_full ≡ false
        pub core : (stands_behind (take s.limit taken)).core ≡ last

      -- the history came to be full at a line of what was taken, and all was answered up to there
      pub record FillsAtLine : Type 0 where
        pub within : length taken ≤ s.limit
        pub wrote : Appends held held' (whole_text taken)
        pub full : (stands_behind taken).is_full ≡ true
        pub core : (stands_behind taken).core ≡ last

      -- the input had ended, and the history came to be full at one of its lines or at its end
      pub record FillsAtEnd : Type 0 where
        pub within : length taken ≤ s.limit
        pub ended : IsAtEnd left'
        pub wrote : Appends held held' (all_text taken)
        pub full : (stands_at_end taken).is_full ≡ true
        pub core : (stands_at_end taken).core ≡ last

      abbrev pub Prints : Result Tally SessionFault → Type 0
      Prints (Ok tally) = AnswersAll
      Prints (Err ReadFault) = AnswersWhole
      Prints (Err InputTooLong) = AnswersFirst
      Prints (Err HistoryFull) = FillsAtLine ⊎ FillsAtEnd
      Prints (Err NoMemory) = AnswersSome
      Prints (Err DiskFault) = AnswersSome
      Prints (Err WriteFault) = AnswersInPart

-- What a run prints as replies of one serial run, from the core that it begins with to the last one

module _ (src : Source) (start last : Core) (held held' : Option (List ℕ)) where
  -- the output gained what the serial run prints that leads to the last core, or a prefix of it: each reply that was begun is one to an entry of
  -- its history
  pub record PrintsOneRun : Type 0 where
    pub lines : ℕ
    pub texts : List (List ℕ)
    pub serial : PrintsSerially src start last lines texts
    pub front : AppendsPrefix held held' (joined texts)

  -- And all replies to what was committed were written; or, where something couldn't be written, all but those to one batch: what is printed before it
  -- was written, and perhaps more.
  pub record RepliesAllButOne (s : RunSettings) (unwritten : Type 0) : Type 0 where
    pub before : Core
    pub lines : ℕ
    pub texts : List (List ℕ)
    pub serial : PrintsSerially src start before lines texts
    pub more : List ℕ
    pub wrote : Appends held held' (joined texts ++ more)
    pub last_is : (last ≡ before) ⊎ (unwritten × (last ≡ next_core (rule_of s) src before))
