use Rattle.std.proofs.Common.{ap, ◌∙◌}
use Rattle.py_tree.specs.PlainExpressions.{PlainExpr}
use Rattle.py_tree.proofs.Views.{ty-Int}
use Rattle.hoisting.specs.Stages.{with_temporary}
use Rattle.hoisting.specs.HoistExpressions.{Hoisted}
use Rattle.method_hoister.proofs.ranges.range_end.Goals as goal

pub returns-clause-known : goal.returns-clause-known
returns-clause-known c = ap (λ (a : Hoisted PlainExpr). a.stage) c.in_ok-hoisted-3.ensures ∙ (λ j. with_temporary (ty-Int j) (c.in_ok-hoisted.ensures j).stage)
