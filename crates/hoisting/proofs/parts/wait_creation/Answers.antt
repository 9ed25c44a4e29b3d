use Rattle.py_tree.specs.PlainTypes.{plain_ty}
use Rattle.hoisting.specs.Views.{context_of}
use Rattle.hoisting.proofs.PartLaws.{creation_waits}
use Rattle.hoisting.proofs.parts.wait_creation.Goals as goal

pub returns : goal.returns
returns c =
    creation_waits (context_of c.args.setting.now) c.args.args.before c.push.new.self c.var_of.result c.in_ok-class.class c.args.args.rest c.in_ok-into.into c.in_ok-after.after c.args.stage.now c.add_temporary.new.self c.args.place (plain_ty c.args.ty) c.args.name.0 c.in_ok-push.ensures.ok c.in_ok-class.ensures c.var_of.ensures c.in_ok-into.ensures.known c.in_ok-into.ensures.name c.in_ok-after.ensures
