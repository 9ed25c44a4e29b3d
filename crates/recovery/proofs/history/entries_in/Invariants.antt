use Rattle.std.proofs.Common.{◌≡◌, ◌≤◌, length}
use Rattle.sf_bytes.specs.Entries.{EntriesTo}
use Rattle.recovery.proofs.history.entries_in.Given as goal

-- so many entries stand up to the place
abbrev pub invariant-loop : goal.invariant-loop
invariant-loop l = record {
  run : EntriesTo l.there 0 l.entries l.at;
  count : length l.entries ≡ l.counter;
  within : l.at ≤ length l.there;
}
