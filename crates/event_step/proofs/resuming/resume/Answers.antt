use Rattle.std.proofs.Common.{sym}
use Rattle.event_step.proofs.StepLaws.{resumes_value, resumes_failure, last_is_due, ok_comes_as}
use Rattle.event_step.proofs.resuming.resume.Goals as goal

pub go_on-requires : goal.go_on-requires
go_on-requires c = last_is_due c.args.code.now c.in-Some.last c.args.tx c.pop_frame.new.frames c.args.steps c.args.held c.args.outcome c.args.frames c.in-Some.ensures _ (resumes_value c.args.code.now c.in-Some.last c.args.tx c.pop_frame.new.frames c.args.steps c.args.held c.args.outcome c.args.frames c.in-Some.ensures c.in-Value.value c.in-Value.is) c.requires

pub go_on_failed-requires : goal.go_on_failed-requires
go_on_failed-requires c = last_is_due c.args.code.now c.in-Some.last c.args.tx c.pop_frame.new.frames c.args.steps c.args.held c.args.outcome c.args.frames c.in-Some.ensures _ (resumes_failure c.args.code.now c.in-Some.last c.args.tx c.pop_frame.new.frames c.args.steps c.args.held c.args.outcome c.args.frames c.in-Some.ensures c.in-Failed.failure c.in-Failed.is) c.requires

pub returns-in-Value : goal.returns-in-Value
returns-in-Value c = ok_comes_as c.go_on.result _ _ (λ fuel. sym (resumes_value c.args.code.now c.in-Some.last c.args.tx c.pop_frame.new.frames c.args.steps c.args.held c.args.outcome c.args.frames c.in-Some.ensures c.in-Value.value c.in-Value.is fuel)) c.go_on.ensures

pub returns-in-Failed : goal.returns-in-Failed
returns-in-Failed c = ok_comes_as c.go_on_failed.result _ _ (λ fuel. sym (resumes_failure c.args.code.now c.in-Some.last c.args.tx c.pop_frame.new.frames c.args.steps c.args.held c.args.outcome c.args.frames c.in-Some.ensures c.in-Failed.failure c.in-Failed.is fuel)) c.go_on_failed.ensures
