use Rattle.std.proofs.Common.{◌++◌, ◌+◌, drop, ap, sym, ◌∙◌, append-nil, append_assoc, List, Some}
use Rattle.py_tree.specs.PlainProgram.{plain_params}
use Rattle.program_meaning.specs.Calls.{bound}
use Rattle.program_meaning.specs.declared.vars.Var.{Var}
use Rattle.source_meaning.proofs.BindLaws.{bound_more, bound_short, bound_end}
use Rattle.source_meaning.proofs.vars.bind.Goals as goal

pub returns-in_default : goal.returns-in_default
returns-in_default c =
    sym (append-nil c.loop-i.vars)
    ∙ ap (λ l. c.loop-i.vars ++ l) (sym (bound_short c.args.params.now c.args.args.now c.loop-i.i (sym c.in_default.ensures.value)))
    ∙ c.loop-i.invariant

pub loop-i-preserved : goal.loop-i-preserved
loop-i-preserved c =
    let others : List Var = bound (plain_params (drop (c.loop-i.i + 1) c.args.params.now)) (drop (c.loop-i.i + 1) c.args.args.now) in
    ap (λ l. l ++ others) c.in_ok-push.ensures.ok
    ∙ append_assoc c.loop-i.vars _ others
    ∙ ap (λ l. c.loop-i.vars ++ l) (sym (bound_more c.args.params.now c.args.args.now c.loop-i.i c.index-params-i.result c.in_ok-value.value c.loop-i-test.true c.index-params-i.is (sym c.in-Some.ensures.value ∙ ap Some (sym c.in_ok-value.ensures))))
    ∙ c.loop-i.invariant

pub returns : goal.returns
returns c =
    sym (append-nil c.loop-i.vars)
    ∙ ap (λ l. c.loop-i.vars ++ l) (sym (bound_end c.args.params.now c.args.args.now c.loop-i.i c.loop-i-test.false))
    ∙ c.loop-i.invariant
