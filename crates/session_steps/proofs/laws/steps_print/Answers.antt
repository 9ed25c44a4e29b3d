use Rattle.session_steps.proofs.PrintLaws.{steps_print}
use Rattle.session_steps.proofs.laws.steps_print.Goals as goal

pub returns : goal.returns
returns c = steps_print
