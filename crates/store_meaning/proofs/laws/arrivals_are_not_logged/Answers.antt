use Rattle.store_meaning.proofs.Arrivals.{arrivals_unlogged, none_unlogged}
use Rattle.store_meaning.proofs.laws.arrivals_are_not_logged.Goals as goal

pub returns : goal.returns
returns c = record { arrived = arrivals_unlogged; none = none_unlogged }
