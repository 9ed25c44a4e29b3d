-- What a session holds between two lines, as the definitions see it.
use Rattle.std.specs.Prelude.{ℕ, Bool, true, false, is_none, List}
use Rattle.std.specs.declared.option.Option.{Option}
use Rattle.request_json.specs.Actions.{Line, Ended, Left}
use Rattle.program_meaning.specs.Serial.{Core}
use Rattle.session.specs.declared.answering.Standing.{Standing}
use Rattle.session.specs.OutputText as text

abbrev pub core_of : Standing → Core
core_of s = record { history = s.history.entries; state = s.local }

abbrev pub standing_of : Standing → text.Standing
standing_of s = record { core = core_of s; lines = s.lines; is_full = false }

-- behind a line: it has stopped where there is no answer
abbrev pub standing_behind : Standing → Option (List ℕ) → text.Standing
standing_behind s answer = record { core = core_of s; lines = s.lines; is_full = is_none answer }

-- a line that ended with LF, or the last one without
abbrev pub line_of : Bool → List ℕ → Line
line_of true bytes = Ended bytes
line_of false bytes = Left bytes
