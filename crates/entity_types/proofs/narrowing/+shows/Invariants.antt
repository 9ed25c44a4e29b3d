use Rattle.std.proofs.Common.{◌≡◌, drop}
use Rattle.py_tree.specs.PlainExpressions.{plain_exprs, exprs_of}
use Rattle.py_tree.specs.FlowEnvironment.{has_name, shown_by_each}
use Rattle.entity_types.proofs.narrowing.+shows.Given as goal

abbrev pub invariant-any_shows-loop-test : goal.invariant-any_shows-loop-test
invariant-any_shows-loop-test l = has_name (shown_by_each l.truth (exprs_of (plain_exprs l.tests))) l.name.0 ≡ has_name (shown_by_each l.truth (exprs_of (plain_exprs (drop l.test-index l.tests)))) l.name.0
