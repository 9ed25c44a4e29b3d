use Rattle.recovery.proofs.StoreSteps.{new_names}
use Rattle.store_tests.proofs.kept.keep_first.Goals as goal

pub keep-requires-clause-names : goal.keep-requires-clause-names
keep-requires-clause-names g c = λ image left. new_names image 0 (c.requires image left)
