use Rattle.store_meaning.proofs.OneMeaning.{one_meaning, one_core_only}
use Rattle.store_meaning.proofs.SomeMeaning.{some_meaning}
use Rattle.store_meaning.proofs.laws.image_has_one_meaning.Goals as goal

pub returns : goal.returns
returns c = record { one = one_meaning; some = some_meaning; one_core = one_core_only }
