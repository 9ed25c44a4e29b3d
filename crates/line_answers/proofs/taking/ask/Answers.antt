use Rattle.std.proofs.Common.{arith}
use Rattle.std.proofs.lemmas.Grind.{common_steps}
use Rattle.batch_replies.proofs.Vocabulary.{arrival_storable}
use Rattle.line_answers.proofs.TakingLaws.{Takes-same}
use Rattle.line_answers.proofs.taking.ask.Goals as goal

pub returns-in_err-arrival-clause-takes : goal.returns-in_err-arrival-clause-takes
returns-in_err-arrival-clause-takes c =
    Takes-same c.args.engine.now c.arrive.new.self c.arrive.ensures.runs c.in_err-arrival.ensures.err.0 c.in_err-arrival.ensures.err.1

pub returns-in_err-answer-clause-takes : goal.returns-in_err-answer-clause-takes
returns-in_err-answer-clause-takes c = record {
  runs = c.arrive.ensures.runs;
  logged = grind (arith, common_steps);
  fits = c.arrive.ensures.core_fits;
  grows = c.arrive.ensures.grows;
  storable = arrival_storable c.args.engine.now c.arrive.new.self c.args.request c.in_ok-arrival.ensures.core c.in_ok-arrival.ensures.fresh c.requires.spelt;
}

pub returns-clause-takes : goal.returns-clause-takes
returns-clause-takes c = record {
  runs = c.arrive.ensures.runs;
  logged = grind (arith, common_steps);
  fits = c.arrive.ensures.core_fits;
  grows = c.arrive.ensures.grows;
  storable = arrival_storable c.args.engine.now c.arrive.new.self c.args.request c.in_ok-arrival.ensures.core c.in_ok-arrival.ensures.fresh c.requires.spelt;
}
