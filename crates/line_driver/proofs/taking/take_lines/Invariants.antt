use Rattle.line_driver.specs.ReadyEngines.{IsReady}
use Rattle.line_driver.proofs.taking.take_lines.Given as goal

abbrev pub invariant-loop-line : goal.invariant-loop-line
invariant-loop-line l = IsReady l.engine
