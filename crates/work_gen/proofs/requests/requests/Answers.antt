use Rattle.std.proofs.Common.{◌-◌, ◌+◌, sym, ◌∙◌, arith}
use Rattle.work_gen.specs.Requests as spec
use Rattle.work_gen.proofs.RequestLaws.{request_more, no_request}
use Rattle.work_gen.proofs.requests.requests.Goals as goal

pub loop-before-preserved : goal.loop-before-preserved
loop-before-preserved c =
    request_more c.loop-before.input c.add_request.new.input (spec.requests c.args.size 1 c.args.number) c.args.size c.loop-before.before c.loop-before.state c.add_request.new.state
    c.loop-before-test.true c.loop-before.invariant c.in_ok-add_request.ensures.0 c.in_ok-add_request.ensures.1

pub returns : goal.returns
returns c = sym (no_request c.loop-before.input (c.args.size - c.loop-before.before) (c.loop-before.before + 1) c.loop-before.state (omega (arith, c.loop-before-test.false))) ∙ c.loop-before.invariant
