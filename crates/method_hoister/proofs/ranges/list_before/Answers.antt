use Rattle.std.proofs.Common.{ap, ◌∙◌}
use Rattle.py_tree.specs.PlainExpressions.{PlainExpr}
use Rattle.py_tree.proofs.Views.{ty-Int}
use Rattle.hoisting.specs.Stages.{with_temporary}
use Rattle.hoisting.specs.HoistExpressions.{Hoisted}
use Rattle.method_hoister.proofs.ranges.list_before.Goals as goal

pub returns-clause-known : goal.returns-clause-known
returns-clause-known c =
    c.in_ok-empty.ensures.known
    ∙ (λ j. with_temporary (c.in_ok-try_clone-2.ensures j)
    ((c.in_ok-index.ensures.known ∙ (λ k. with_temporary (ty-Int k) ((ap (λ (a : Hoisted PlainExpr). a.stage) c.in_ok-hoisted-2.ensures ∙ (λ l. with_temporary (c.in_ok-try_clone.ensures l) (c.in_ok-hoisted.ensures l).stage)) k))) j))
