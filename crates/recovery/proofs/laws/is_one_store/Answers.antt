use Rattle.recovery.proofs.OneStore.{new_not_old, new_not_bad, old_not_bad, one_old, one_bad}
use Rattle.recovery.proofs.laws.is_one_store.Goals as goal

pub returns : goal.returns
returns c = record { new_or_old = new_not_old; new_or_bad = new_not_bad; old_or_bad = old_not_bad; one_old = one_old; one_bad = one_bad }
