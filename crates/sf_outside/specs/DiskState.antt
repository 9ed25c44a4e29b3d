-- What a disk in memory shows, and what each call makes of it.
use Rattle.std.specs.Prelude.{ℕ, ◌≡◌, Bool, ◌||◌, List, [], ◌∷◌, ◌++◌, length, min, nat_le, if◌then◌else◌}
use Rattle.sf_outside.specs.Calls.{is_due}
use Rattle.sf_outside.specs.Causes.{next_count}
use Rattle.sf_outside.specs.DiskModel.{Image, DiskFacts}
use Rattle.sf_outside.specs.DiskCalls.{DiskCall, Quiet, facts_after}
use Rattle.sf_outside.specs.MountState.{MountState}

-- the image that it began with, the calls that it noted, how many it notes and how many bytes its files and all its
-- writes may have, the calls that are to fail, how many calls and how many faults there were, and the mounts
pub record DiskState : Type 0 where
  pub start : Image
  pub calls : List DiskCall
  pub limit : ℕ
  pub room : ℕ
  pub fail_at : List ℕ
  pub made : ℕ
  pub faults : ℕ
  pub mounts : MountState

-- what is told of it
abbrev pub facts_of : DiskState → DiskFacts
facts_of disk = facts_after disk.start disk.calls

-- each call that was made is noted, as long as there is room
abbrev pub NotesAll : DiskState → Type 0
NotesAll disk = length disk.calls ≡ min disk.made disk.limit

-- whether the next call fails whatever it is: it is to fail, or the number of calls is used up
abbrev pub fails_next : DiskState → Bool
fails_next disk = is_due disk.fail_at (next_count disk.made) || nat_le disk.limit (length disk.calls)

-- a call was made and noted
abbrev pub after_done : DiskCall → DiskState → DiskState
after_done call disk = record disk { calls = disk.calls ++ call ∷ []; made = next_count disk.made }

-- the calls and one that changes nothing, where the disk notes one more
abbrev pub calls_quiet : DiskState → List DiskCall
calls_quiet disk = if nat_le disk.limit (length disk.calls) then disk.calls else disk.calls ++ Quiet ∷ []

-- a call was made that did nothing
abbrev pub after_quiet : DiskState → DiskState
after_quiet disk = record disk { calls = calls_quiet disk; made = next_count disk.made }

-- a call failed
abbrev pub after_fault : DiskState → DiskState
after_fault disk = record disk { calls = calls_quiet disk; made = next_count disk.made; faults = next_count disk.faults }
