use Rattle.std.proofs.Common.{◌≡◌, ◌∙◌, ap, ◌-◌}
use Rattle.std.specs.Prelude.{unwrap_or, is_some, ◌||◌}
use Rattle.py_tree.specs.PlainExpressions.{plain_expr}
use Rattle.sf_value.specs.Keys.{key_of}
use Rattle.program_meaning.specs.Evaluation.{eval}
use Rattle.program_meaning.specs.Calls.{Held, on_record}
use Rattle.program_meaning.specs.RequestRun.{at_first, depth_limit}
use Rattle.program_meaning.specs.Sources.{source_of}
use Rattle.source_meaning.specs.Transactions.{world_of}
use Rattle.program_meaning.specs.Here.{held, GivesHere}
use Rattle.source_meaning.specs.HereAnswers.{ComesTo}
use Rattle.source_meaning.proofs.HereAnswers.{mapped_ok, gives_here}
use Rattle.source_meaning.proofs.here.eval_here.Goals as goal

-- src/here.rt:90
pub returns : goal.returns
returns c =
    let src = source_of c.args.program.now in
    let me = key_of c.args.me.now in
    let d = depth_limit - c.args.depth in
    let before = c.args.wrote.now in
    let fields = c.args.held.now.fields in
    let w = world_of c.own-own.result c.evaluate-given.new.run.tx in
    let written = c.into_written-written.result in
    let h : Held = held c.put_back.new.held c.put_back.new.wrote in
    let back : h ≡ record { fields = unwrap_or written fields; wrote = before || is_some written } = λ i. record { fields = c.put_back.ensures.fields i; wrote = c.put_back.ensures.flag i } in
    mapped_ok c.outcome_here.result (ComesTo c.evaluate-given.result) (λ x. GivesHere x h c.evaluate-given.new.run.steps (eval (on_record src me d) (plain_expr c.args.expr.now) c.args.vars.now (held c.args.held.now c.args.wrote.now) c.args.steps.now))
    (gives_here src me d c.saturating_sub.result c.saturating_sub.ensures before fields (world_of c.own-own.result c.begin.result) w written h (c.begin.ensures c.own-own.result ∙ ap at_first c.own-own.ensures) (c.into_written-written.ensures.written c.own-own.result) (c.into_written-written.ensures.fields c.own-own.result) back
    (plain_expr c.args.expr.now) c.args.vars.now c.args.steps.now c.evaluate-given.new.run.steps c.evaluate-given.result c.evaluate-given.ensures)
    c.outcome_here.ensures
