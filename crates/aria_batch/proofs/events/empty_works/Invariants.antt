use Rattle.std.proofs.Common.{◌≡◌}
use Rattle.batch_events.specs.Vocabulary.{no_works}
use Rattle.aria_batch.proofs.events.empty_works.Given as goal

abbrev pub invariant-loop : goal.invariant-loop
invariant-loop l = l.works ≡ no_works l.counter
