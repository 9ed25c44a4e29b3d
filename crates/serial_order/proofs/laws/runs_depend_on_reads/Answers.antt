use Rattle.serial_order.proofs.FramedRuns.{runs_framed}
use Rattle.serial_order.proofs.laws.runs_depend_on_reads.Goals as goal

pub returns : goal.returns
returns c = runs_framed
