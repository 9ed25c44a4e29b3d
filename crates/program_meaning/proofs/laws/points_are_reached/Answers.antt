use Rattle.program_meaning.proofs.NotReached.{acts_reached}
use Rattle.program_meaning.proofs.laws.points_are_reached.Goals as goal

pub returns : goal.returns
returns c = (λ s. acts_reached s, λ s. acts_reached s, λ s. acts_reached s)
