use Rattle.accepted_texts.proofs.RealPrograms.{accepted_is_real}
use Rattle.accepted_texts.proofs.laws.accepted_programs_are_real.Goals as goal

pub returns : goal.returns
returns c = accepted_is_real
