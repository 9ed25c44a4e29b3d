use Rattle.std.proofs.Common.{take}
use Rattle.sf_list.specs.Copies.{AreCopies}
use Rattle.sf_list.proofs.SequenceTryClone.try_clone.Given as goal

abbrev pub invariant-loop-item : goal.invariant-loop-item
invariant-loop-item g l = AreCopies g.T.TryClone.is_copy (take l.item-index l.item-items) l.made
