use Rattle.std.proofs.Common.{length, ◌-◌, ◌≡◌, ◌≤◌}
use Rattle.store_folder.proofs.file_access.read_whole_at.Given as goal

-- the first bytes of the buffer came
abbrev pub invariant-loop-taken : goal.invariant-loop-taken
invariant-loop-taken g l = record {
  within : l.taken ≤ length l.buf;
  same : length l.buf ≡ length l.fn.buf;
}

abbrev pub decreases-loop-taken : goal.decreases-loop-taken
decreases-loop-taken g l = length l.initial.buf - l.taken
