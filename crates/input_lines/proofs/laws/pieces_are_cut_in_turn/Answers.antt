use Rattle.input_lines.proofs.CutLaws.{pieces_are_cut_in_turn}
use Rattle.input_lines.proofs.laws.pieces_are_cut_in_turn.Goals as goal

pub returns : goal.returns
returns c = pieces_are_cut_in_turn
