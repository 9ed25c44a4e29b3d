-- What a judge holds between two lines, as the definitions see it.
use Rattle.std.specs.Prelude.{◌≡◌, ◌≤◌, Bool, true, false, List, ℕ, length, Some, IfSome}
use Rattle.request_json.specs.Actions.{Line, Ended, Left}
use Rattle.run_audit.specs.declared.judging.Judge.{Judge}
use Rattle.run_audit.specs.Verdict.{last_entry, if_new}
use Rattle.run_audit.specs.Judging.{Judged}

abbrev pub judged_by : Judge → Judged
judged_by j = record { ids = j.ids.keys; state = j.local; asked = j.asked }

-- a line that ended with LF, or the last one without
abbrev pub shown_line : Bool → List ℕ → Line
shown_line true bytes = Ended bytes
shown_line false bytes = Left bytes

-- there was a place for each entry, and the request whose reply comes next is new
pub record Stands (j : Judge) : Type 0 where
  pub few : length j.ids.keys ≤ last_entry
  pub new : IfSome j.asked (λ r. if_new j.ids.keys r ≡ Some r)
