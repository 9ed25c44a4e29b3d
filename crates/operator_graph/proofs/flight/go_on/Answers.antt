use Rattle.std.proofs.lemmas.Result.{on_ok_weaker}
use Rattle.operator_graph.proofs.flight.go_on.Goals as goal

pub returns : goal.returns
returns c = on_ok_weaker c.settle.result (λ settled. record { between = c.step.new.flight; stepped = c.in_ok-step.ensures; settled = settled }) c.settle.ensures
