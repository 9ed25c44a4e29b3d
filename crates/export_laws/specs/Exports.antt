-- The lines of a history: for each entry its request line and its reply line.
use Rattle.std.specs.Prelude.{ℕ, suc, List, [], ◌∷◌, ◌++◌, None, Some}
use Rattle.std.specs.declared.option.Option.{Option}
use Rattle.sf_value.specs.declared.Entry.{Entry}
use Rattle.program_meaning.specs.ClassTables.{Source}
use Rattle.request_history.specs.Repeats.{Kept, placed}
use Rattle.request_json.specs.ReplyLines.{reply_line}
use Rattle.request_json.specs.RequestTexts.{request_line}

-- an entry that stands at a place
abbrev pub entry_lines : Source → Kept → List (List ℕ)
entry_lines src kept = request_line src kept.entry.request ∷ reply_line kept.entry.request.id kept.entry.outcome kept.place ∷ []

-- where one stands there
abbrev pub kept_lines : Source → Option Kept → List (List ℕ)
kept_lines src None = []
kept_lines src (Some kept) = entry_lines src kept

-- entries of which the first has this place
abbrev pub lines_from : Source → ℕ → List Entry → List (List ℕ)
lines_from src place [] = []
lines_from src place (e ∷ es) = entry_lines src (placed place e) ++ lines_from src (suc place) es

abbrev pub history_lines : Source → List Entry → List (List ℕ)
history_lines src history = lines_from src 1 history
