use Rattle.sf_value.proofs.FloorLaws.{floor_is}
use Rattle.sf_value.proofs.arithmetic.has_computed_quotient.Goals as goal

pub returns : goal.returns
returns c = floor_is
