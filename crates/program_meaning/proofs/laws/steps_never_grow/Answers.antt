use Rattle.program_meaning.proofs.StepsTaken.{eval_takes, acts_take, source_takes, own_calls_take}
use Rattle.program_meaning.proofs.TurnsEnough.{whiles_enough, numbers_enough}
use Rattle.program_meaning.proofs.laws.steps_never_grow.Goals as goal

pub returns : goal.returns
returns c = record {
  expressions = (λ s calls. eval_takes s calls, λ s calls. eval_takes s calls, λ s calls. eval_takes s calls);
  statements = (λ s calls. acts_take s calls, λ s calls. acts_take s calls, λ s calls. acts_take s calls);
  calls = source_takes;
  own_calls = (own_calls_take, own_calls_take, own_calls_take);
  turns = (λ s calls. whiles_enough s calls, λ s calls. whiles_enough s calls, λ s calls. whiles_enough s calls);
  numbers = (λ s calls. numbers_enough s calls, λ s calls. numbers_enough s calls, λ s calls. numbers_enough s calls);
}
