use Rattle.std.proofs.Common.{◌≡◌, not}
use Rattle.std.specs.Prelude.{filter}
use Rattle.reservations.specs.Accesses.{accesses_of}
use Rattle.reservations.specs.CommitRules.{places}
use Rattle.reservations.specs.BatchRule.{is_clear}
use Rattle.reservations.proofs.rule1.choose_by.Given as goal

abbrev pub invariant-loop-i : goal.invariant-loop-i
invariant-loop-i l = record {
  committed : l.choice.committed ≡ filter (is_clear (accesses_of l.works)) (places l.i);
  carried : l.choice.carried ≡ filter (λ place. not (is_clear (accesses_of l.works) place)) (places l.i);
}
