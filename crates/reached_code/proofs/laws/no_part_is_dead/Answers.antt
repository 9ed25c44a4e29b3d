use Rattle.reached_code.proofs.LeadingStatements.{no_part_is_dead}
use Rattle.reached_code.proofs.laws.no_part_is_dead.Goals as goal

pub returns : goal.returns
returns c = no_part_is_dead
