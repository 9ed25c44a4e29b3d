use Rattle.std.proofs.Common.{◌≡◌, ◌∙◌, ap, subst, ◌-◌}
use Rattle.std.specs.Prelude.{unwrap_or, is_some, ◌||◌}
use Rattle.py_tree.specs.PlainStatements.{plain_stmts, stmts_of}
use Rattle.sf_value.specs.Keys.{key_of}
use Rattle.program_meaning.specs.Execution.{act_all}
use Rattle.program_meaning.specs.Calls.{Held, on_record}
use Rattle.program_meaning.specs.RequestRun.{at_first, depth_limit}
use Rattle.program_meaning.specs.Sources.{source_of}
use Rattle.source_meaning.specs.Transactions.{world_of}
use Rattle.source_meaning.specs.Agrees.{EndsIn}
use Rattle.program_meaning.specs.Here.{held}
use Rattle.source_meaning.specs.HereAnswers.{EndsHere, EndedAs}
use Rattle.program_meaning.proofs.HereLaws.{within}
use Rattle.source_meaning.proofs.HereAnswers.{mapped_ok, acts_here}
use Rattle.source_meaning.proofs.here.run_here.Goals as goal

-- src/here.rt:54
pub returns : goal.returns
returns c =
    let src = source_of c.args.program.now in
    let me = key_of c.args.me.now in
    let d = depth_limit - c.args.depth in
    let before = c.args.wrote.now in
    let fields = c.args.held.now.fields in
    let w = world_of c.own-own.result c.execute_all-ended.new.run.tx in
    let written = c.into_written-written.result in
    let h : Held = held c.put_back.new.held c.put_back.new.wrote in
    let back : h ≡ record { fields = unwrap_or written fields; wrote = before || is_some written } = λ i. record { fields = c.put_back.ensures.fields i; wrote = c.put_back.ensures.flag i } in
    mapped_ok c.ended_here.result (EndedAs c.execute_all-ended.result) (λ x. EndsHere x c.execute_all-ended.new.vars h c.execute_all-ended.new.run.steps (act_all (on_record src me d) (stmts_of (plain_stmts c.args.code.now)) c.args.vars.now (held c.args.held.now c.args.wrote.now) c.args.steps.now))
    (acts_here src me d c.saturating_sub.result c.saturating_sub.ensures before fields (world_of c.own-own.result c.begin.result) w written h (c.begin.ensures c.own-own.result ∙ ap at_first c.own-own.ensures) (c.into_written-written.ensures.written c.own-own.result) (c.into_written-written.ensures.fields c.own-own.result) back
    (stmts_of (plain_stmts c.args.code.now)) c.args.vars.now c.execute_all-ended.new.vars c.args.steps.now c.execute_all-ended.new.run.steps c.execute_all-ended.result
    (subst (λ l. EndsIn c.execute_all-ended.result c.execute_all-ended.new.vars w c.execute_all-ended.new.run.steps (act_all (within src me c.saturating_sub.result) (stmts_of (plain_stmts l)) c.args.vars.now (world_of c.own-own.result c.begin.result) c.args.steps.now)) c.as_slice.ensures c.execute_all-ended.ensures))
    c.ended_here.ensures
