use Rattle.input_lines.proofs.GivenLaws.{lines_are_given_in_turn}
use Rattle.input_lines.proofs.laws.lines_are_given_in_turn.Goals as goal

pub returns : goal.returns
returns c = lines_are_given_in_turn
