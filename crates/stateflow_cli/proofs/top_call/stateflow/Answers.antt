use Rattle.stateflow_cli.proofs.DeedLaws.{does_asked}
use Rattle.stateflow_cli.proofs.top_call.stateflow.Goals as goal

pub returns-clause-promise : goal.returns-clause-promise
returns-clause-promise g c = record { answers = c.run_words.ensures.answers; does = does_asked _ _ _ _ _ _ c.run_words.ensures.answers c.run_words.ensures.aside }
