use Rattle.session.proofs.AnswersFitLaws.{answers_fit}
use Rattle.session.proofs.laws.answers_fit.Goals as goal

pub returns : goal.returns
returns c = answers_fit
