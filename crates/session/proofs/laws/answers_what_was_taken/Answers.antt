use Rattle.session.proofs.TakenLaws.{Served-taken}
use Rattle.session.proofs.laws.answers_what_was_taken.Goals as goal

pub returns : goal.returns
returns c = Served-taken
