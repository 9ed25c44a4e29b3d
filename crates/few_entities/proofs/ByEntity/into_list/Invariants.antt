use Rattle.std.proofs.Common.{◌≡◌, ◌++◌}
use Rattle.few_entities.proofs.ByEntity.into_list.Given as goal

abbrev pub invariant-loop-entry : goal.invariant-loop-entry
invariant-loop-entry g l = l.list.items ++ l.entry-iterator ≡ l.fn.self
