-- What a session does with lines of its input.
use Rattle.std.specs.Prelude.{◌≡◌, List, ℕ, OnOk}
use Rattle.std.specs.declared.option.Option.{Option}
use Rattle.std.specs.declared.result.Result.{Result}
use Rattle.program_meaning.specs.ClassTables.{Source}
use Rattle.request_json.specs.Actions.{Line}
use Rattle.session.specs.declared.answering.Standing.{Standing as Held}
use Rattle.session.specs.declared.stopping.SessionStop.{SessionStop}
use Rattle.session.specs.OutputText.{Standing, replies, after}
use Rattle.session.specs.Standings.{standing_of}
use Rattle.session.specs.Stops.{Wrote, FindsFull}

-- a program is served with so many entries in the history at most: from one standing on these lines were answered, or as far as it went
pub record Answers (src : Source) (most : ℕ) {T : Type 0} (result : Result T SessionStop) (old : Standing) (new : Held) (held held' : Option (List ℕ))
    (lines : List Line) : Type 0 where
  pub wrote : Wrote result held held' (replies src most old lines)
  pub full : FindsFull result (after src most old lines).is_full
  pub standing : OnOk result (standing_of new ≡ after src most old lines)
