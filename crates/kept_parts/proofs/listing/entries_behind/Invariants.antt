use Rattle.std.proofs.Common.{◌≡◌, ◌≤◌, take, drop}
use Rattle.kept_parts.proofs.listing.entries_behind.Given as goal

-- the entries before this one were listed, but for the first so many
abbrev pub invariant-loop-i : goal.invariant-loop-i
invariant-loop-i l = record {
  so_far : l.entries ≡ drop l.kept (take l.i l.history.entries);
  begun : l.kept ≤ l.i;
}
