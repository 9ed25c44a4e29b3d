use Rattle.std.proofs.Common.{length, ◌-◌, ◌≤◌}
use Rattle.store_folder.proofs.file_access.write_whole_at.Given as goal

-- the first bytes were written
abbrev pub invariant-loop-written : goal.invariant-loop-written
invariant-loop-written g l = record {
  within : l.written ≤ length l.bytes;
}

abbrev pub decreases-loop-written : goal.decreases-loop-written
decreases-loop-written g l = length l.bytes - l.written
