use Rattle.transaction_steps.proofs.GoingOn.{transactions_begin}
use Rattle.transaction_steps.proofs.laws.transactions_begin.Goals as goal

pub returns : goal.returns
returns c = transactions_begin
