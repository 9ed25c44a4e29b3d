-- What a call promises that was asked to serve generated work.
use Rattle.std.specs.Prelude.{ℕ, ◌≡◌, ⊤, codes}
use Rattle.command_words.specs.Commands as words
use Rattle.stateflow_cli.specs.Devices.{Devices, AreUnread}
use Rattle.stateflow_cli.specs.Answers.{TellsStatus}
use Rattle.stateflow_cli.specs.Causes.{HasItsStatus, IsFault}
use Rattle.stateflow_cli.specs.GenClauses.{SumsUpByStatus, WorkTells}

pub record GenPromise (s : words.GenSettings) (before after : Devices) (status : ℕ) : Type 0 where
  -- nothing of the files and of the input was touched
  pub unread : AreUnread before after
  -- what was printed, by the status, in counts and a sum that stop at no greatest number; what was chosen and told; and the line of the status
  pub text : SumsUpByStatus s before after status
  pub events : WorkTells s before after status
  pub line : TellsStatus (codes "gen") before.err after.err status
  -- the status is 0
  pub causes : HasItsStatus (λ k. k ≡ 0) (λ k. ⊤) (IsFault ⊥ ⊥ before after) status
