use Rattle.line_driver.specs.ReadyEngines.{IsReady}
use Rattle.line_driver.proofs.answers.other_answer.Given as goal

abbrev pub invariant-loop-row : goal.invariant-loop-row
invariant-loop-row g l = IsReady l.driver.engine
