use Rattle.transaction_steps.proofs.GoingOn.{transactions_go_on}
use Rattle.transaction_steps.proofs.laws.transactions_go_on.Goals as goal

pub returns : goal.returns
returns c = transactions_go_on
