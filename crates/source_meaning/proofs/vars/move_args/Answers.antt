use Rattle.std.proofs.Common.{◌≡◌, ◌++◌, ◌+◌, List, [], length, drop, ap, sym, ◌∙◌, append-nil, append_assoc, arith}
use Rattle.std.specs.Vec.Iter.{into_iter_items}
use Rattle.std.proofs.lemmas.List.{nil_from_length}
use Rattle.py_tree.specs.PlainProgram.{plain_params}
use Rattle.program_meaning.specs.Calls.{bound}
use Rattle.program_meaning.specs.declared.vars.Var.{Var}
use Rattle.source_meaning.proofs.BindLaws.{bound_next, bound_none, bound_past}
use Rattle.source_meaning.proofs.vars.move_args.Goals as goal

pub returns-in_default : goal.returns-in_default
returns-in_default c =
    let left = into_iter_items c.loop-param.args in
    let count = c.in_default.ensures.cases.0 in
    let none : left ≡ [] = nil_from_length left (omega (arith, count)) in
    sym (append-nil c.loop-param.vars)
    ∙ ap (λ l. c.loop-param.vars ++ l) (sym (bound_none (drop c.loop-param.param-index c.args.params.now) left none))
    ∙ c.loop-param.invariant.bound

pub loop-param-preserved : goal.loop-param-preserved
loop-param-preserved c =
    let left = into_iter_items c.next.new.self in
    let step = c.in-Some.ensures.items in
    let others : List Var = bound (plain_params (drop (c.loop-param.param-index + 1) c.args.params.now)) left in
    record {
      bound =
          ap (λ l. l ++ others) c.in_ok-push.ensures.ok
          ∙ append_assoc c.loop-param.vars _ others
          ∙ ap (λ l. c.loop-param.vars ++ l) (sym (bound_next c.args.params.now _ left c.loop-param.param-index c.param-item.result c.in-Some.value c.loop-param-test.true c.param-item.is step))
          ∙ c.loop-param.invariant.bound;
      count = omega (arith, c.in-Some.ensures.cases.1, ap length step);
    }

pub returns : goal.returns
returns c =
    sym (append-nil c.loop-param.vars)
    ∙ ap (λ l. c.loop-param.vars ++ l) (sym (bound_past c.args.params.now (into_iter_items c.loop-param.args) c.loop-param.param-index c.loop-param-test.false))
    ∙ c.loop-param.invariant.bound
