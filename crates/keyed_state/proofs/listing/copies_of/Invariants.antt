use Rattle.std.proofs.Common.{◌≡◌, take, map}
use Rattle.keyed_state.specs.Listing.{held_of}
use Rattle.keyed_state.proofs.listing.copies_of.Given as goal

abbrev pub invariant-loop-i : goal.invariant-loop-i
invariant-loop-i l = l.all ≡ map held_of (take l.i l.records.entries)
