use Rattle.py_tree.specs.PlainTypes.{plain_ty}
use Rattle.hoisting.specs.Views.{context_of}
use Rattle.hoisting.proofs.PartLaws.{call_waits}
use Rattle.hoisting.proofs.parts.wait_call.Goals as goal

pub returns : goal.returns
returns c =
    call_waits (context_of c.args.setting.now) c.args.parts.before c.push.new.self c.args.parts.on c.var_of.result c.in_ok-callee.callee c.args.parts.args c.in_ok-into.into c.in_ok-after.after c.args.stage.now c.add_temporary.new.self c.args.place (plain_ty c.args.ty) (plain_ty c.args.on_ty.now) c.args.name.name.0 c.args.name.place c.in_ok-push.ensures.ok c.in_ok-callee.ensures c.var_of.ensures c.in_ok-into.ensures.known c.in_ok-into.ensures.name c.in_ok-after.ensures
