use Rattle.std.proofs.Common.{◌≡◌, drop}
use Rattle.std.specs.Prelude.{◌==◌}
use Rattle.std.specs.List.{position_from}
use Rattle.py_tree.specs.ClassViews.{numbers_of}
use Rattle.call_graph.proofs.sites.number_of.Given as goal

abbrev pub invariant-loop-number : goal.invariant-loop-number
invariant-loop-number l = position_from (λ m. m == l.name.0) 0 (numbers_of l.methods) ≡ position_from (λ m. m == l.name.0) l.number (numbers_of (drop l.number l.methods))
