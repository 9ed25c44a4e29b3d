-- What a session printed of what it took, from one core to another, and that its replies are those of the source methods, run one request after another.
use Rattle.std.specs.Prelude.{ℕ, ◌≡◌, ◌⊎◌, List, [], ◌∷◌}
use Rattle.std.specs.declared.option.Option.{Option}
use Rattle.sf_value.specs.declared.Entry.{Entry}
use Rattle.program_meaning.specs.ClassTables.{Source}
use Rattle.engine.specs.Cores.{Core, IsSoundCore, empty_core}
use Rattle.engine.specs.Growth.{GoesOnSerially}
use Rattle.batch_run.specs.declared.running.RunSettings.{RunSettings}
use Rattle.batch_run.specs.RunTexts.{AnswersAll, AnswersWhole, AnswersFirst, FillsAtLine, FillsAtEnd, AnswersSome, AnswersInPart, PrintsOneRun, RepliesAllButOne}
use Rattle.stateflow_cli.specs.Session.{IsOneOf}

-- by its settings, and what the output held before it and behind it
module _ (src : Source) (s : RunSettings) (start last : Core) (held held' : Option (List ℕ)) where
  -- These entries were added: their outcomes, and the last state, are those of running their requests one after another from the first state, so that a
  -- sound core leads to a sound one. Nothing committed is a sound core. From a sound one on each line of the output that has a place is that of the
  -- entry at that place, and all replies to what was committed were written, but where some may be unwritten perhaps those to one batch.
  pub record IsSerial (entries : List Entry) (unwritten : Type 0) : Type 0 where
    pub added : GoesOnSerially src start last entries
    pub empty : start ≡ empty_core → IsSoundCore src start
    pub lines : IsSoundCore src start → PrintsOneRun src start last held held'
    pub replies : IsSoundCore src start → RepliesAllButOne src start last held held' s unwritten

  -- Whatever the status, what was written is a part of what answers what was taken. The first status says that all of the input was answered; that of a read
  -- fault, and of too long an input, that exactly its whole lines were, as far as they were taken; that of a full history that all was up to there; and those
  -- of a fault of the disk and of want of memory that some first lines were.
  pub record PrintsText (status : ℕ) (left' : Option (List ℕ)) (taken : List ℕ) : Type 0 where
    pub part : AnswersInPart src s start left' held held' taken
    pub all : status ≡ 0 → AnswersAll src s start left' held held' taken last
    pub unread : status ≡ 3 → AnswersWhole src s start left' held held' taken last
    pub too_long : status ≡ 9 → AnswersFirst src s start left' held held' taken last
    pub full : status ≡ 10 → FillsAtLine src s start left' held held' taken last ⊎ FillsAtEnd src s start left' held held' taken last
    pub some : IsOneOf status (5 ∷ 8 ∷ []) → AnswersSome src s start left' held held' taken
