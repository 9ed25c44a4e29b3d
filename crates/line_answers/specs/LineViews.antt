-- A line that is given, and what was read of it, as the definitions see them.
use Rattle.std.specs.Prelude.{Bool, true, false, List, ℕ, ⊤}
use Rattle.py_tree.specs.ClassRules.{PlainTable}
use Rattle.request_history.specs.SoundHistory.{RequestFits}
use Rattle.request_json.specs.Actions as actions
use Rattle.request_json.specs.Actions.{Line, Ended, Left}
use Rattle.request_json.specs.LineSpellings.{HasSpelling}
use Rattle.batch_replies.specs.Vocabulary.{most_bytes}
use Rattle.line_answers.specs.declared.reading.InputLine.{InputLine}
use Rattle.line_answers.specs.declared.reading.Action.{Action}
use Rattle.line_answers.specs.declared.reading.Action.TheVariants.{Skip, Refuse, Ask}
use Rattle.line_answers.specs.declared.reading.Cause.{Cause}
use Rattle.line_answers.specs.declared.reading.Cause.TheVariants.{LineTooLong, Unread}

abbrev pub cut : Bool → List ℕ → Line
cut true bytes = Ended bytes
cut false bytes = Left bytes

abbrev pub line_of : InputLine → Line
line_of line = cut line.ended line.bytes.now

abbrev pub cause_of : Cause → actions.Cause
cause_of LineTooLong = actions.LineTooLong
cause_of (Unread fault) = actions.Unread fault

abbrev pub asked : Action → actions.Action
asked Skip = actions.Skip
asked (Refuse cause) = actions.Refuse (cause_of cause)
asked (Ask request) = actions.Ask request

-- a request that is asked fits the program
abbrev pub ActionFits : List PlainTable → actions.Action → Type 0
ActionFits tables actions.Skip = ⊤
ActionFits tables (actions.Refuse cause) = ⊤
ActionFits tables (actions.Ask request) = RequestFits tables request

-- and has a spelling in a store
abbrev pub ActionIsSpelt : actions.Action → Type 0
ActionIsSpelt actions.Skip = ⊤
ActionIsSpelt (actions.Refuse cause) = ⊤
ActionIsSpelt (actions.Ask request) = HasSpelling most_bytes request
