use Rattle.std.proofs.Common.{◌≡◌, ◌+◌, take}
use Rattle.engine.specs.Batches.{replies_from}
use Rattle.engine.proofs.copying.replies_to.Given as goal

abbrev pub invariant-loop-entry : goal.invariant-loop-entry
invariant-loop-entry l = record {
  seq : l.seq ≡ l.before + l.entry-index;
  replies : l.replies ≡ replies_from (l.before + 1) (take l.entry-index l.entries);
}
