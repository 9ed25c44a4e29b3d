use Rattle.std.proofs.Common.{arith}
use Rattle.compact_lines.proofs.ReadSizes.{read_sized}
use Rattle.compact_lines.proofs.RequestSizes.{line_short}
use Rattle.compact_lines.proofs.lines_are_no_shorter.Goals as goal

pub returns : goal.returns
returns c = record { texts = λ text d is. (read_sized text d is).0; lines = line_short; read = λ src line r short is. omega (arith, short, line_short src line r is) }
