use Rattle.line_driver.specs.ReadyEngines.{IsReady}
use Rattle.line_driver.proofs.driver.Driver.end.Given as goal

abbrev pub invariant-loop : goal.invariant-loop
invariant-loop g l = IsReady l.self.engine
