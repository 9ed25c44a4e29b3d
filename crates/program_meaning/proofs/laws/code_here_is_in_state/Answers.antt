use Rattle.program_meaning.proofs.HereInState.{expressions_alike, statements_alike}
use Rattle.program_meaning.proofs.laws.code_here_is_in_state.Goals as goal

pub returns : goal.returns
returns c = record { expressions = expressions_alike; statements = statements_alike }
