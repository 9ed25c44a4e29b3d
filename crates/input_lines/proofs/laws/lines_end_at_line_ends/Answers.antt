use Rattle.input_lines.proofs.CutLaws.{lines_end_at_line_ends}
use Rattle.input_lines.proofs.laws.lines_end_at_line_ends.Goals as goal

pub returns : goal.returns
returns c = lines_end_at_line_ends
