use Rattle.program_meaning.proofs.Soundness.{first_fits, runs_fit, histories_fit, expressions_fit, statements_fit, calls_keep_fit, inits_fit, init_expressions_fit, init_statements_fit, checked_are_known}
use Rattle.program_meaning.proofs.HereFits.{expressions_here_fit, statements_here_fit}
use Rattle.program_meaning.proofs.laws.nothing_goes_wrong.Goals as goal

pub returns : goal.returns
returns c = record { first = first_fits; runs = runs_fit; histories = histories_fit; expressions = expressions_fit; statements = statements_fit; calls = calls_keep_fit; inits = inits_fit; init_expressions = init_expressions_fit; init_statements = init_statements_fit; here_expressions = expressions_here_fit; here_statements = statements_here_fit; checked = checked_are_known }
