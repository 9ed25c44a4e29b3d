use Rattle.program_meaning.proofs.LightExpressions.{eval_light, turns_light}
use Rattle.program_meaning.proofs.LightCalls.{body_light, calls_are_light, own_calls_are_light}
use Rattle.program_meaning.proofs.LightRuns.{runs_are_light}
use Rattle.program_meaning.proofs.laws.values_are_light.Goals as goal

pub returns : goal.returns
returns c = record {
  expressions = (λ s calls. eval_light s calls, λ s calls. eval_light s calls, λ s calls. eval_light s calls);
  items = (λ s calls. turns_light s calls, λ s calls. turns_light s calls, λ s calls. turns_light s calls);
  bodies = (λ s calls. body_light s calls, λ s calls. body_light s calls, λ s calls. body_light s calls);
  calls = calls_are_light;
  own_calls = (own_calls_are_light, own_calls_are_light, own_calls_are_light);
  runs = runs_are_light;
}
