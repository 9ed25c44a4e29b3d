use Rattle.std.proofs.Common.{map}
use Rattle.std.proofs.lemmas.Result.{on_ok_weaker}
use Rattle.py_tree.specs.PlainProgram.{plain_class}
use Rattle.py_tree.specs.ClassViews.{numbers_of}
use Rattle.call_graph.proofs.ExprRules.{call_found}
use Rattle.call_graph.proofs.exprs.+exprs.Goals as goal

pub find-returns-in_ok-find_in-in-Call : goal.find-returns-in_ok-find_in-in-Call
find-returns-in_ok-find_in-in-Call t c =
    let p = map plain_class c.args.classes.now in
    let ms = numbers_of c.args.methods.now in
    on_ok_weaker c.add_call.result (λ added. call_found c.args.expr.now.place p ms c.args.found.now c.find.new.found c.find_in.new.found c.add_call.new.found c.args.expr.now.kind c.in-Call.on c.in-Call.name c.in-Call.args c.deref.result.now c.deref-in-Call.result.now c.in-Call.is c.deref.ensures c.deref-in-Call.ensures c.in_ok-find-in-Call.ensures c.in_ok-find_in-in-Call.ensures added) c.add_call.ensures
