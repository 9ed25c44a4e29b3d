use Rattle.sf_value.proofs.Quotients.{one_quotient}
use Rattle.sf_value.proofs.arithmetic.has_one_quotient.Goals as goal

pub returns : goal.returns
returns c = one_quotient
