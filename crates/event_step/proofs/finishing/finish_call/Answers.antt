use Rattle.event_step.proofs.StepLaws.{calls_in, call_finishes}
use Rattle.event_step.proofs.finishing.finish_call.Goals as goal

pub called_method-method-requires : goal.called_method-method-requires
called_method-method-requires c = (calls_in c.args.code.now c.args.entered c.args.running c.args.to c.args.args c.args.number c.requires.part c.requires.is c.requires.fits).there

pub returns : goal.returns
returns c = call_finishes c.args.code.now c.args.entered c.args.running c.args.to c.args.args c.args.number c.called_method-method.result c.finish_waiting.result c.called_method-method.ensures c.finish_waiting.ensures
